use Rattle.std.proofs.Common.{◌≡◌, true}
use Rattle.machine_spec.specs.Allowed.{all_ended}
use Rattle.import_machine.proofs.leave.all_ended.Given as goal

abbrev pub invariant-loop-thread : goal.invariant-loop-thread
invariant-loop-thread l = all_ended l.machine l.thread ≡ true
