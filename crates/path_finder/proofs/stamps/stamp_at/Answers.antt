use Rattle.path_finder.specs.Steps.{stamped_at}
use Rattle.path_finder.proofs.stamps.stamp_at.Goals as goal

pub returns-in-Ok-clause-reads : goal.returns-in-Ok-clause-reads
returns-in-Ok-clause-reads g c = λ next search reads. stamped_at c.args.path.now c.in-Ok.stamp next search c.in-Ok.ensures.told reads
