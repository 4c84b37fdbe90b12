use Rattle.machine_laws.proofs.Always.{resting_always}
use Rattle.machine_laws.proofs.laws.one_resting_load.Goals as goal

pub returns : goal.returns
returns c = resting_always
