use Rattle.value_laws.proofs.Comparing.{equivalence}
use Rattle.value_laws.proofs.equal_is_equivalence.Goals as goal

pub returns : goal.returns
returns c = equivalence
