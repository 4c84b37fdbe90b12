use Rattle.std.proofs.Common.{◌∙◌, ap}
use Rattle.tree_overlay.specs.Fates.{fate_of}
use Rattle.tree_overlay.proofs.Overlaid.{tree_told, stamp_told}
use Rattle.tree_overlay.proofs.overlay.OverlayTree.stamp.Goals as goal

pub returns-in_err-stamp-clause-is_tree : goal.returns-in_err-stamp-clause-is_tree
returns-in_err-stamp-clause-is_tree g c = tree_told _ c.args.self.now.edits c.args.self.now.below_root c.stamp.ensures.is_tree

pub returns-clause-is_tree : goal.returns-clause-is_tree
returns-clause-is_tree g c = tree_told _ c.args.self.now.edits c.args.self.now.below_root c.stamp.ensures.is_tree

pub returns-clause-told : goal.returns-clause-told
returns-clause-told g c =
    stamp_told _ c.args.self.now.edits c.args.path.now _ _ _ (c.fate_of.ensures ∙ ap (fate_of c.args.self.now.edits) c.parts.ensures) c.in_ok-stamp.ensures.told c.stamp_by.ensures
