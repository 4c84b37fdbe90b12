use Rattle.machine_allows.proofs.Law.{knows_allowed}
use Rattle.machine_allows.proofs.knows_is_allowed.Goals as goal

pub returns : goal.returns
returns c = knows_allowed
