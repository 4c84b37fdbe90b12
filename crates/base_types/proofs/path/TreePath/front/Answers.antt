use Rattle.std.proofs.Common.{sym, subst}
use Rattle.base_types.specs.Path.{IsPath}
use Rattle.base_types.proofs.PathText.{IsPath-take}
use Rattle.base_types.proofs.path.TreePath.front.Goals as goal

pub invariant_of-result : goal.invariant_of-result
invariant_of-result c = subst IsPath (sym c.in_ok-front_of.ensures) (IsPath-take _ c.args.n c.self.invariant)
