use Rattle.std.proofs.Common.{◌∙◌, refl, sym, ap, map}
use Rattle.std.specs.String.{string_bytes}
use Rattle.program_rounds.specs.Answers.{Answers, rounds_plan}
use Rattle.program_rounds.proofs.Answering.{names_rounds}
use Rattle.program_rounds.proofs.answer.call.Goals as goal

pub run_file-requires-clause-rounds : goal.run_file-requires-clause-rounds
run_file-requires-clause-rounds g c κs within = names_rounds c.args.plan c.in-Ok.run' c.in-Ok.ensures.ok

pub returns-in-Ok-clause-answers : goal.returns-in-Ok-clause-answers
returns-in-Ok-clause-answers g c = c.run_file.ensures.answers (map string_bytes c.args.words.now) (ap rounds_plan (sym c.requires.plan) ∙ c.in-Ok.ensures.ok)

pub returns-in-Err-clause-answers : goal.returns-in-Err-clause-answers
returns-in-Err-clause-answers g c = Answers.plain (ap rounds_plan (sym c.requires.plan) ∙ c.in-Err.ensures.err.1) c.call.ensures.answers
