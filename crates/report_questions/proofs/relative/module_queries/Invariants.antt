use Rattle.std.proofs.Common.{◌≡◌, take}
use Rattle.report_questions.specs.Questions.{module_queries}
use Rattle.report_questions.proofs.relative.module_queries.Given as goal

abbrev pub invariant-loop-name : goal.invariant-loop-name
invariant-loop-name l = l.queries ≡ module_queries (take l.name-index l.name-items)
