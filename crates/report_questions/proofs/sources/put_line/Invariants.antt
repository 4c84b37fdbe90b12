use Rattle.std.proofs.Common.{◌≡◌, ◌++◌}
use Rattle.report_questions.specs.Questions.{in_line}
use Rattle.report_questions.proofs.sources.put_line.Given as goal

abbrev pub invariant-loop-query : goal.invariant-loop-query
invariant-loop-query l = l.questions ≡ l.initial.questions ++ in_line l.line l.yielded
