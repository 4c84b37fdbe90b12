use Rattle.std.proofs.Common.{◌≡◌, take}
use Rattle.trace_check.specs.Replays.{replied, is_deadlock}
use Rattle.trace_check.proofs.history.deadlocks_in.Given as goal

abbrev pub invariant-loop-entry : goal.invariant-loop-entry
invariant-loop-entry l = l.count ≡ replied is_deadlock (take l.entry-index l.entries)
