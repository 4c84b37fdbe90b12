use Rattle.std.proofs.Common.{◌≡◌}
use Rattle.program_run.specs.Ends.{status_of}
use Rattle.program_gen.proofs.worst.worst_in.Given as goal

abbrev pub invariant-loop-script : goal.invariant-loop-script
invariant-loop-script l = l.worst ≡ status_of l.script l.history
