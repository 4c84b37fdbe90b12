use Rattle.std.proofs.Common.{subst, IfSome}
use Rattle.tree_files.specs.Files.{IsRead, is_file}
use Rattle.bundle_hook.specs.Places.{LeadsInto}
use Rattle.bundle_hook.proofs.Trees.{tree_told}
use Rattle.bundle_hook.proofs.Told.{read_inside_told, read_outside_told, test_outside, bundle_file_told}
use Rattle.bundle_hook.proofs.tree.BundleTreeTree.read.Goals as goal

pub read-requires : goal.read-requires
read-requires g c =
    test_outside is_file (g.T.Tree.files c.args.self.now.tree) (g.T.Tree.files c.bundle_for.new.tree) c.args.file.now c.bundle_for.ensures.files_stay
    (subst (λ place. IfSome (g.T.Tree.files c.args.self.now.tree) (λ f. LeadsInto f c.bundle_for.new.kept c.args.file.now place)) c.in-None.is c.in_ok-bundle_for.ensures.told) c.requires

pub read_at-requires-clause-bundle : goal.read_at-requires-clause-bundle
read_at-requires-clause-bundle g c =
    bundle_file_told (g.T.Tree.files c.args.self.now.tree) (g.T.Tree.files c.bundle_for.new.tree) c.bundle_for.new.kept c.in-Some.found c.args.file.now c.bundle_for.ensures.files_stay
    (subst (λ place. IfSome (g.T.Tree.files c.args.self.now.tree) (λ f. LeadsInto f c.bundle_for.new.kept c.args.file.now place)) c.in-Some.is c.in_ok-bundle_for.ensures.told)

pub returns-in_err-bundle_for-clause-is_tree : goal.returns-in_err-bundle_for-clause-is_tree
returns-in_err-bundle_for-clause-is_tree g c = tree_told _ c.bundle_for.ensures.is_tree

pub returns-in_err-count-in-None-clause-is_tree : goal.returns-in_err-count-in-None-clause-is_tree
returns-in_err-count-in-None-clause-is_tree g c = tree_told _ c.bundle_for.ensures.is_tree

pub returns-in_err-count-in-Some-clause-is_tree : goal.returns-in_err-count-in-Some-clause-is_tree
returns-in_err-count-in-Some-clause-is_tree g c = tree_told _ c.bundle_for.ensures.is_tree

pub returns-in_ok-count-in-None-clause-is_tree : goal.returns-in_ok-count-in-None-clause-is_tree
returns-in_ok-count-in-None-clause-is_tree g c = tree_told _ c.bundle_for.ensures.is_tree

pub returns-in_ok-count-in-Some-clause-is_tree : goal.returns-in_ok-count-in-Some-clause-is_tree
returns-in_ok-count-in-Some-clause-is_tree g c = tree_told _ c.bundle_for.ensures.is_tree

pub returns-in_ok-count-in-None-clause-told : goal.returns-in_ok-count-in-None-clause-told
returns-in_ok-count-in-None-clause-told g c =
    read_outside_told (λ bytes. IsRead bytes c.args.at c.args.into.now c.read.new.into c.in_ok-count-in-None.count) (g.T.Tree.files c.args.self.now.tree) (g.T.Tree.files c.bundle_for.new.tree) c.args.file.now
    c.bundle_for.ensures.files_stay
    (subst (λ place. IfSome (g.T.Tree.files c.args.self.now.tree) (λ f. LeadsInto f c.bundle_for.new.kept c.args.file.now place)) c.in-None.is c.in_ok-bundle_for.ensures.told)
    c.in_ok-count-in-None.ensures.told

pub returns-in_ok-count-in-Some-clause-told : goal.returns-in_ok-count-in-Some-clause-told
returns-in_ok-count-in-Some-clause-told g c =
    read_inside_told (g.T.Tree.files c.args.self.now.tree) (g.T.Tree.files c.bundle_for.new.tree) c.bundle_for.new.kept c.in-Some.found c.args.file.now c.args.at c.args.into.now c.read_at.new.into c.in_ok-count-in-Some.count c.bundle_for.ensures.is_tree
    c.bundle_for.ensures.files_stay
    (subst (λ place. IfSome (g.T.Tree.files c.args.self.now.tree) (λ f. LeadsInto f c.bundle_for.new.kept c.args.file.now place)) c.in-Some.is c.in_ok-bundle_for.ensures.told)
    c.requires c.in_ok-count-in-Some.ensures.told
