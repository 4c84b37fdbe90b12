use Rattle.bundle_hook.proofs.Above.{fresh_told, new_right}
use Rattle.bundle_hook.proofs.indexes.kept_at.Goals as goal

pub returns-in-Some-clause-index : goal.returns-in-Some-clause-index
returns-in-Some-clause-index g c = fresh_told (g.T.Tree.files c.args.tree.now) c.args.kept.now c.args.file.now c.args.size c.in-Some.at c.requires.right c.requires.file c.in-Some.ensures

pub returns-in_err-keep-clause-right : goal.returns-in_err-keep-clause-right
returns-in_err-keep-clause-right g c =
    c.keep.ensures.right (g.T.Tree.files c.args.tree.now) c.requires.right
    (new_right (g.T.Tree.files c.args.tree.now) c.args.file.now c.args.size c.in_ok-new.new c.ranges.size.fits c.requires.named c.requires.file c.in_ok-new.ensures.path c.in_ok-new.ensures.size c.in_ok-new.ensures.index)

pub returns-clause-right : goal.returns-clause-right
returns-clause-right g c =
    c.keep.ensures.right (g.T.Tree.files c.args.tree.now) c.requires.right
    (new_right (g.T.Tree.files c.args.tree.now) c.args.file.now c.args.size c.in_ok-new.new c.ranges.size.fits c.requires.named c.requires.file c.in_ok-new.ensures.path c.in_ok-new.ensures.size c.in_ok-new.ensures.index)
