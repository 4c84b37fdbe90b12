use Rattle.value_laws.proofs.Comparing.{transitive}
use Rattle.value_laws.proofs.less_is_transitive.Goals as goal

pub returns : goal.returns
returns c = transitive
