use Rattle.std.proofs.Common.{◌≡◌, take}
use Rattle.report_questions.specs.Questions.{questions_of}
use Rattle.report_questions.proofs.sources.questions_of.Given as goal

abbrev pub invariant-loop-import : goal.invariant-loop-import
invariant-loop-import l = l.questions ≡ questions_of l.home (take l.import-index l.import-items)
