use Rattle.std.proofs.Common.{◌≡◌, ◌++◌}
use Rattle.program_rounds.proofs.open.append.Given as goal

abbrev pub invariant-loop-text : goal.invariant-loop-text
invariant-loop-text l = l.texts ≡ l.fn.texts ++ l.yielded
