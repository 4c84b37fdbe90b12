use Rattle.tree_walk.proofs.Folders.{packed_dir}
use Rattle.tree_walk.proofs.pack.pack_dir.Goals as goal

pub returns-clause-told : goal.returns-clause-told
returns-clause-told g c = packed_dir (g.T.Tree.files c.args.tree.now) c.args.dir.now c.in_ok-files.files c.packing_of.result c.packing_of.ensures c.in_ok-files.ensures.taken
