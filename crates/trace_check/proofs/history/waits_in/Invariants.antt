use Rattle.std.proofs.Common.{◌≡◌, take}
use Rattle.trace_check.specs.Replays.{replied, waits}
use Rattle.trace_check.proofs.history.waits_in.Given as goal

abbrev pub invariant-loop-entry : goal.invariant-loop-entry
invariant-loop-entry l = l.count ≡ replied waits (take l.entry-index l.entries)
