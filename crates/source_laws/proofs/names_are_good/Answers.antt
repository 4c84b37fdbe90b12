use Rattle.source_laws.proofs.Trees.{names_good}
use Rattle.source_laws.proofs.names_are_good.Goals as goal

pub returns : goal.returns
returns c = names_good
