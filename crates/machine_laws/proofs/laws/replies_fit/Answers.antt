use Rattle.machine_laws.proofs.Always.{fits_always}
use Rattle.machine_laws.proofs.laws.replies_fit.Goals as goal

pub returns : goal.returns
returns c = fits_always
