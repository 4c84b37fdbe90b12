use Rattle.std.proofs.Common.{◌≡◌, take}
use Rattle.report_questions.specs.Questions.{member_queries}
use Rattle.report_questions.proofs.relative.member_queries.Given as goal

abbrev pub invariant-loop-name : goal.invariant-loop-name
invariant-loop-name l = l.queries ≡ member_queries l.source (take l.name-index l.name-items)
