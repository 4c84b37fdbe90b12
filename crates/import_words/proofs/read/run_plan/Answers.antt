use Rattle.std.proofs.Common.{◌∙◌, sym, ap, map}
use Rattle.std.specs.String.{string_bytes}
use Rattle.std.proofs.lemmas.Result.{IfOk-weaker}
use Rattle.import_words.specs.Plans.{run_plan}
use Rattle.import_words.proofs.Narrowed.{made_of, run_is}
use Rattle.import_words.proofs.read.run_plan.Goals as goal

pub returns-in-Some : goal.returns-in-Some
returns-in-Some c = IfOk-weaker c.ran.result _ _
    (λ o e. e ∙ ap (run_plan c.in-Some.front.settings) c.as_slice.ensures ∙ ap (made_of run_plan) (sym c.in-Some.is ∙ c.in_ok-found.ensures) ∙ run_is (map string_bytes c.args.words.now)) c.ran.ensures

pub returns-in-None : goal.returns-in-None
returns-in-None c = ap (made_of run_plan) (sym c.in-None.is ∙ c.in_ok-found.ensures) ∙ run_is (map string_bytes c.args.words.now)
