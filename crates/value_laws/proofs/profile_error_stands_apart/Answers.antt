use Rattle.value_laws.proofs.KindOrder.{stands}
use Rattle.value_laws.proofs.profile_error_stands_apart.Goals as goal

pub returns : goal.returns
returns c = stands
