use Rattle.machine_laws.proofs.Always.{someone_always}
use Rattle.machine_laws.proofs.laws.someone_goes_on.Goals as goal

pub returns : goal.returns
returns c = someone_always
