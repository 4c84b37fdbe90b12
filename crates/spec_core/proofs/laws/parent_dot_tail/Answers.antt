use Rattle.spec_core.proofs.Dots.{whole}
use Rattle.spec_core.proofs.laws.parent_dot_tail.Goals as goal

pub returns : goal.returns
returns c = whole c.args.name.now
