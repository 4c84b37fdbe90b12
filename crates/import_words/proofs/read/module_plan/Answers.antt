use Rattle.std.proofs.Common.{◌∙◌, sym, ap, map}
use Rattle.std.specs.String.{string_bytes}
use Rattle.std.proofs.lemmas.Result.{IfOk-weaker}
use Rattle.import_words.specs.Plans.{module_plan}
use Rattle.import_words.proofs.Narrowed.{made_of, module_is}
use Rattle.import_words.proofs.read.module_plan.Goals as goal

pub returns-in-Some : goal.returns-in-Some
returns-in-Some c = IfOk-weaker c.module_of.result _ _
    (λ o e. e ∙ ap (made_of module_plan) (sym c.in-Some.is ∙ c.in_ok-found.ensures) ∙ module_is (map string_bytes c.args.words.now)) c.module_of.ensures

pub returns-in-None : goal.returns-in-None
returns-in-None c = ap (made_of module_plan) (sym c.in-None.is ∙ c.in_ok-found.ensures) ∙ module_is (map string_bytes c.args.words.now)
