use Rattle.std.proofs.Common.{◌≡◌, map, take}
use Rattle.machine_events.specs.declared.event.Pair.{Pair}
use Rattle.machine_shown.specs.Own.{own}
use Rattle.trace_check.proofs.thread.own.Given as goal

abbrev pub invariant-loop-entry : goal.invariant-loop-entry
invariant-loop-entry l = map (λ (p : Pair). (p.event, p.reply)) l.pairs ≡ own l.t (take l.entry-index l.entries)
