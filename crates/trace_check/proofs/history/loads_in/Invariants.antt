use Rattle.std.proofs.Common.{◌≡◌, take}
use Rattle.trace_check.specs.Replays.{replied, begins_body}
use Rattle.trace_check.proofs.history.loads_in.Given as goal

abbrev pub invariant-loop-entry : goal.invariant-loop-entry
invariant-loop-entry l = l.count ≡ replied begins_body (take l.entry-index l.entries)
