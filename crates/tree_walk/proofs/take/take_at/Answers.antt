use Rattle.std.proofs.Common.{◌≡◌, subst, IfSome, IfOk}
use Rattle.tree_files.specs.Files.{node_at, stamp_of}
use Rattle.tree_files.specs.declared.tree.Stamp.{Stamp}
use Rattle.tree_walk.specs.Due.{TakesAt}
use Rattle.tree_walk.proofs.Walking.{absent_taken, dir_there, file_there, tree_there}
use Rattle.tree_walk.proofs.take.take_at.Goals as goal

pub returns-in-Absent-clause-takes : goal.returns-in-Absent-clause-takes
returns-in-Absent-clause-takes g c =
    absent_taken (g.T.Tree.files c.args.tree.now) c.args.path c.args.walk.now c.stamp.ensures.is_tree
    (subst (λ (s : Stamp). IfSome (g.T.Tree.files c.args.tree.now) (λ f. s ≡ stamp_of (node_at f c.args.path))) c.in-Absent.is c.in_ok-stamp.ensures.told)

pub enter-requires-clause-dir : goal.enter-requires-clause-dir
enter-requires-clause-dir g c =
    dir_there (g.T.Tree.files c.args.tree.now) (g.T.Tree.files c.stamp.new.self) c.args.path c.in-Dir.field-0 c.stamp.ensures.files_stay
    (subst (λ (s : Stamp). IfSome (g.T.Tree.files c.args.tree.now) (λ f. s ≡ stamp_of (node_at f c.args.path))) c.in-Dir.is c.in_ok-stamp.ensures.told)

pub enter-requires-clause-tree : goal.enter-requires-clause-tree
enter-requires-clause-tree g c = tree_there (g.T.Tree.files c.args.tree.now) (g.T.Tree.files c.stamp.new.self) c.stamp.ensures.files_stay c.stamp.ensures.is_tree

pub take_file-requires-clause-file : goal.take_file-requires-clause-file
take_file-requires-clause-file g c =
    file_there (g.T.Tree.files c.args.tree.now) (g.T.Tree.files c.stamp.new.self) c.args.path c.in-File.field-0 c.stamp.ensures.files_stay
    (subst (λ (s : Stamp). IfSome (g.T.Tree.files c.args.tree.now) (λ f. s ≡ stamp_of (node_at f c.args.path))) c.in-File.is c.in_ok-stamp.ensures.told)

pub take_file-requires-clause-tree : goal.take_file-requires-clause-tree
take_file-requires-clause-tree g c = tree_there (g.T.Tree.files c.args.tree.now) (g.T.Tree.files c.stamp.new.self) c.stamp.ensures.files_stay c.stamp.ensures.is_tree

pub returns-in-Dir-clause-takes : goal.returns-in-Dir-clause-takes
returns-in-Dir-clause-takes g c =
    subst (λ o. IfSome o (λ f. IfOk c.enter.result (λ more. TakesAt f c.args.path c.args.walk.now c.enter.new.walk more))) c.stamp.ensures.files_stay c.enter.ensures.takes

pub returns-in-File-clause-takes : goal.returns-in-File-clause-takes
returns-in-File-clause-takes g c =
    subst (λ o. IfSome o (λ f. IfOk c.take_file.result (λ more. TakesAt f c.args.path c.args.walk.now c.take_file.new.walk more))) c.stamp.ensures.files_stay c.take_file.ensures.takes
