use Rattle.std.proofs.Common.{subst, IfSome}
use Rattle.bundle_hook.specs.Places.{LeadsInto}
use Rattle.bundle_hook.proofs.Trees.{tree_told}
use Rattle.bundle_hook.proofs.Told.{list_inside_told, list_outside_told}
use Rattle.bundle_hook.proofs.tree.BundleTreeTree.list.Goals as goal

pub returns-in_err-bundle_for-clause-is_tree : goal.returns-in_err-bundle_for-clause-is_tree
returns-in_err-bundle_for-clause-is_tree g c = tree_told _ c.bundle_for.ensures.is_tree

pub returns-in_err-names-in-None-clause-is_tree : goal.returns-in_err-names-in-None-clause-is_tree
returns-in_err-names-in-None-clause-is_tree g c = tree_told _ c.bundle_for.ensures.is_tree

pub returns-in_err-names-in-Some-clause-is_tree : goal.returns-in_err-names-in-Some-clause-is_tree
returns-in_err-names-in-Some-clause-is_tree g c = tree_told _ c.bundle_for.ensures.is_tree

pub returns-in_ok-names-in-None-clause-is_tree : goal.returns-in_ok-names-in-None-clause-is_tree
returns-in_ok-names-in-None-clause-is_tree g c = tree_told _ c.bundle_for.ensures.is_tree

pub returns-in_ok-names-in-Some-clause-is_tree : goal.returns-in_ok-names-in-Some-clause-is_tree
returns-in_ok-names-in-Some-clause-is_tree g c = tree_told _ c.bundle_for.ensures.is_tree

pub returns-in_ok-names-in-None-clause-told : goal.returns-in_ok-names-in-None-clause-told
returns-in_ok-names-in-None-clause-told g c =
    list_outside_told (g.T.Tree.files c.args.self.now.tree) (g.T.Tree.files c.bundle_for.new.tree) c.args.dir.now c.in_ok-names-in-None.names c.bundle_for.ensures.is_tree c.bundle_for.ensures.files_stay
    (subst (λ place. IfSome (g.T.Tree.files c.args.self.now.tree) (λ f. LeadsInto f c.bundle_for.new.kept c.args.dir.now place)) c.in-None.is c.in_ok-bundle_for.ensures.told)
    c.requires c.in_ok-names-in-None.ensures.told

pub returns-in_ok-names-in-Some-clause-told : goal.returns-in_ok-names-in-Some-clause-told
returns-in_ok-names-in-Some-clause-told g c =
    list_inside_told (g.T.Tree.files c.args.self.now.tree) c.bundle_for.new.kept c.in-Some.found c.args.dir.now c.in_ok-names-in-Some.names c.bundle_for.ensures.is_tree
    (subst (λ place. IfSome (g.T.Tree.files c.args.self.now.tree) (λ f. LeadsInto f c.bundle_for.new.kept c.args.dir.now place)) c.in-Some.is c.in_ok-bundle_for.ensures.told)
    c.requires c.in_ok-names-in-Some.ensures.folder
