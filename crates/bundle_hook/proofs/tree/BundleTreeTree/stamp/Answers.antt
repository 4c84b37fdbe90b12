use Rattle.std.proofs.Common.{◌∙◌, ap, subst, IfSome}
use Rattle.bundle_hook.specs.Places.{Leads}
use Rattle.bundle_hook.specs.Things.{stamp_of_thing}
use Rattle.bundle_hook.proofs.Trees.{tree_told}
use Rattle.bundle_hook.proofs.Told.{stamp_inside_told}
use Rattle.bundle_hook.proofs.tree.BundleTreeTree.stamp.Goals as goal

pub returns-in_err-stamp-clause-is_tree : goal.returns-in_err-stamp-clause-is_tree
returns-in_err-stamp-clause-is_tree g c = tree_told _ c.place_of.ensures.is_tree

pub returns-in-Outside-clause-is_tree : goal.returns-in-Outside-clause-is_tree
returns-in-Outside-clause-is_tree g c = tree_told _ c.place_of.ensures.is_tree

pub returns-in-Inside-clause-is_tree : goal.returns-in-Inside-clause-is_tree
returns-in-Inside-clause-is_tree g c = tree_told _ c.place_of.ensures.is_tree

pub returns-in-Inside-clause-told : goal.returns-in-Inside-clause-told
returns-in-Inside-clause-told g c =
    stamp_inside_told (g.T.Tree.files c.args.self.now.tree) c.place_of.new.kept c.in-Inside.found c.args.path.now c.stamp_of.result c.place_of.ensures.is_tree
    (subst (λ place. IfSome (g.T.Tree.files c.args.self.now.tree) (λ f. Leads f c.place_of.new.kept c.args.path.now place)) c.in-Inside.is c.in_ok-stamp.ensures.told)
    (c.stamp_of.ensures ∙ ap stamp_of_thing c.inner_at.ensures)
