use Rattle.std.proofs.Common.{◌∙◌, refl, sym, ap, map}
use Rattle.std.specs.String.{string_bytes}
use Rattle.program_run.specs.Answers.{Answers, built}
use Rattle.program_run.proofs.Plans.{built_few}
use Rattle.program_run.proofs.answer.call.Goals as goal

pub run_plan-requires-clause-few : goal.run_plan-requires-clause-few
run_plan-requires-clause-few g c κs within =
    built_few (map string_bytes c.args.words.now) c.in-Some.run' (ap built (sym c.requires.plan) ∙ (sym c.built.ensures ∙ c.in-Some.is))

pub returns-in-Some-clause-answers : goal.returns-in-Some-clause-answers
returns-in-Some-clause-answers g c =
    c.run_plan.ensures.answers (map string_bytes c.args.words.now) (ap built (sym c.requires.plan) ∙ (sym c.built.ensures ∙ c.in-Some.is))

pub returns-in-None-clause-answers : goal.returns-in-None-clause-answers
returns-in-None-clause-answers g c =
    Answers.refused (ap built (sym c.requires.plan) ∙ (sym c.built.ensures ∙ c.in-None.is)) c.refused.ensures.plan c.refused.ensures.history refl refl (c.refused.ensures.leaves _ _ refl refl refl)
