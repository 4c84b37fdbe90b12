use Rattle.std.proofs.Common.{◌≡◌, subst, Option, IfSome, IfOk}
use Rattle.tree_files.specs.Files.{Files, node_at, stamp_of}
use Rattle.tree_files.specs.declared.tree.Stamp.{Stamp}
use Rattle.tree_walk.specs.Below.{taken}
use Rattle.tree_walk.specs.Packing.{packing_of}
use Rattle.tree_walk.proofs.Walking.{dir_there, tree_there}
use Rattle.tree_walk.proofs.Folders.{at_dir, at_none}
use Rattle.tree_walk.proofs.pack.pack_at.Goals as goal

pub pack_dir-requires-clause-dir : goal.pack_dir-requires-clause-dir
pack_dir-requires-clause-dir g c =
    dir_there (g.T.Tree.files c.args.tree.now) (g.T.Tree.files c.stamp.new.self) c.args.dir.now c.in-Dir.field-0 c.stamp.ensures.files_stay
    (subst (λ (s : Stamp). IfSome (g.T.Tree.files c.args.tree.now) (λ f. s ≡ stamp_of (node_at f c.args.dir.now))) c.in-Dir.is c.in_ok-stamp.ensures.told)

pub pack_dir-requires-clause-tree : goal.pack_dir-requires-clause-tree
pack_dir-requires-clause-tree g c = tree_there (g.T.Tree.files c.args.tree.now) (g.T.Tree.files c.stamp.new.self) c.stamp.ensures.files_stay c.stamp.ensures.is_tree

pub returns-in-Dir-clause-told : goal.returns-in-Dir-clause-told
returns-in-Dir-clause-told g c =
    at_dir (g.T.Tree.files c.args.tree.now) c.args.dir.now c.in-Dir.field-0 c.pack_dir.result
    (subst (λ (s : Stamp). IfSome (g.T.Tree.files c.args.tree.now) (λ f. s ≡ stamp_of (node_at f c.args.dir.now))) c.in-Dir.is c.in_ok-stamp.ensures.told)
    (subst (λ (o : Option Files). IfSome o (λ f. IfOk c.pack_dir.result (λ it. it ≡ packing_of (taken f c.args.dir.now)))) c.stamp.ensures.files_stay c.pack_dir.ensures.told)

pub returns-in_default-clause-told : goal.returns-in_default-clause-told
returns-in_default-clause-told g c = at_none (g.T.Tree.files c.args.tree.now) c.args.dir.now c.in_ok-stamp.field-0 c.in_default.not-Dir c.in_ok-stamp.ensures.told
