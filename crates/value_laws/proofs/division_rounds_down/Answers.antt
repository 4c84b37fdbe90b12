use Rattle.value_laws.proofs.Dividing.{rounds}
use Rattle.value_laws.proofs.division_rounds_down.Goals as goal

pub returns : goal.returns
returns c = rounds
