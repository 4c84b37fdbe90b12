use Rattle.machine_laws.proofs.Always.{open_always}
use Rattle.machine_laws.proofs.laws.one_open_load.Goals as goal

pub returns : goal.returns
returns c = open_always
