use Rattle.std.proofs.Common.{◌≡◌}
use Rattle.trace_check.proofs.Replaying.{IsUpTo}
use Rattle.trace_check.proofs.history.replay.Given as goal

abbrev pub invariant-loop-entry : goal.invariant-loop-entry
invariant-loop-entry l = IsUpTo l.fn.machine l.machine l.entries l.entry-index × (l.at ≡ l.entry-index)
