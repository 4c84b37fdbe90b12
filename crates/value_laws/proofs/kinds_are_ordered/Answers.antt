use Rattle.value_laws.proofs.KindOrder.{ordered}
use Rattle.value_laws.proofs.kinds_are_ordered.Goals as goal

pub returns : goal.returns
returns c = ordered
