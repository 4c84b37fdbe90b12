use Rattle.machine_laws.proofs.Always.{taken_cycle_always}
use Rattle.machine_laws.proofs.laws.taken_cycle_would_close.Goals as goal

pub returns : goal.returns
returns c = taken_cycle_always
