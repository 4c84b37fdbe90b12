use Rattle.spec_core.proofs.Cuts.{cut_once}
use Rattle.spec_core.proofs.parts.around_last_dot.Goals as goal

pub returns-clause-value : goal.returns-clause-value
returns-clause-value c = cut_once _ _ c.rsplit_once.ensures.cases
