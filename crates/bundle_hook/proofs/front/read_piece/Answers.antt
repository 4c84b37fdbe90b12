use Rattle.std.proofs.Common.{refl}
use Rattle.bundle_hook.proofs.TreeFronts.{piece}
use Rattle.bundle_hook.proofs.front.read_piece.Goals as goal

pub returns-clause-told : goal.returns-clause-told
returns-clause-told g c =
    piece (g.T.Tree.files c.args.tree.now) c.args.file.now c.args.front.now _ _ c.read.new.into _ c.args.done c.in_ok-count.count c.requires.within c.in_ok-count.ensures.told refl
