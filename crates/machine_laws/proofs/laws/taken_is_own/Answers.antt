use Rattle.machine_laws.proofs.Always.{taken_always}
use Rattle.machine_laws.proofs.laws.taken_is_own.Goals as goal

pub returns : goal.returns
returns c = taken_always
