use Rattle.machine_laws.proofs.Always.{own_always}
use Rattle.machine_laws.proofs.laws.initialising_is_own.Goals as goal

pub returns : goal.returns
returns c = own_always
