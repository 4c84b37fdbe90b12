use Rattle.source_laws.proofs.Trees.{functions_numbered}
use Rattle.source_laws.proofs.functions_are_numbered.Goals as goal

pub returns : goal.returns
returns c = functions_numbered
