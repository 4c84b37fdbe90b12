use Rattle.std.proofs.Common.{◌≡◌, ◌++◌}
use Rattle.program_rounds.proofs.course.append.Given as goal

abbrev pub invariant-loop-came : goal.invariant-loop-came
invariant-loop-came l = l.results.items ≡ l.fn.results.items ++ l.yielded
