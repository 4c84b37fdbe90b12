use Rattle.bundle_hook.proofs.Above.{none_right}
use Rattle.bundle_hook.proofs.tree.BundleTree.new.Goals as goal

pub invariant_of-result-clause-right : goal.invariant_of-result-clause-right
invariant_of-result-clause-right g c = none_right (g.T.Tree.files c.args.tree) c.new.result c.new.ensures
