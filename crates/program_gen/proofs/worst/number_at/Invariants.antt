use Rattle.std.proofs.Common.{◌≡◌, take}
use Rattle.machine_shown.specs.Own.{own}
use Rattle.program_run.specs.Ends.{end_of, number_at}
use Rattle.program_gen.proofs.worst.number_at.Given as goal

abbrev pub invariant-loop-entry : goal.invariant-loop-entry
invariant-loop-entry l = l.number ≡ number_at (end_of (own l.script (take l.entry-index l.history)))
