use Rattle.std.proofs.Common.{◌∙◌, sym, ap, map}
use Rattle.std.specs.String.{string_bytes}
use Rattle.std.proofs.lemmas.Result.{IfOk-weaker}
use Rattle.import_words.specs.Plans.{check_plan}
use Rattle.import_words.proofs.Narrowed.{made_of, check_is}
use Rattle.import_words.proofs.read.check_plan.Goals as goal

pub returns-in-Some : goal.returns-in-Some
returns-in-Some c = IfOk-weaker c.check_of.result _ _
    (λ o e. e ∙ ap (check_plan c.in-Some.front.settings) c.as_slice.ensures ∙ ap (made_of check_plan) (sym c.in-Some.is ∙ c.in_ok-found.ensures) ∙ check_is (map string_bytes c.args.words.now)) c.check_of.ensures

pub returns-in-None : goal.returns-in-None
returns-in-None c = ap (made_of check_plan) (sym c.in-None.is ∙ c.in_ok-found.ensures) ∙ check_is (map string_bytes c.args.words.now)
