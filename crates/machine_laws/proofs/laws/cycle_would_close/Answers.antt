use Rattle.machine_laws.proofs.Always.{cycle_always}
use Rattle.machine_laws.proofs.laws.cycle_would_close.Goals as goal

pub returns : goal.returns
returns c = cycle_always
