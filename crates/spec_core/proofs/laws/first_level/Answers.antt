use Rattle.spec_core.proofs.Levels.{first_resolved}
use Rattle.spec_core.proofs.laws.first_level.Goals as goal

pub returns : goal.returns
returns c = first_resolved c.args.package.now c.args.name.now
