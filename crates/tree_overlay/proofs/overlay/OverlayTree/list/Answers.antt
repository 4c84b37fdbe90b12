use Rattle.std.proofs.Common.{◌≡◌, ◌∙◌, sym, ap, subst, true, false}
use Rattle.tree_overlay.specs.Fates.{fate_of}
use Rattle.tree_overlay.specs.Names.{IsMerged, is_no_dir}
use Rattle.tree_overlay.proofs.Overlaid.{tree_told, list_told, no_dir_told, dir_may_be}
use Rattle.tree_overlay.proofs.overlay.OverlayTree.list.Goals as goal

pub returns-in_err-inner-clause-is_tree : goal.returns-in_err-inner-clause-is_tree
returns-in_err-inner-clause-is_tree g c = tree_told _ c.args.self.now.edits c.args.self.now.below_root c.names_inside.ensures.is_tree

pub returns-then-is_no_dir-clause-is_tree : goal.returns-then-is_no_dir-clause-is_tree
returns-then-is_no_dir-clause-is_tree g c = tree_told _ c.args.self.now.edits c.args.self.now.below_root c.names_inside.ensures.is_tree

pub returns-in_err-merged-clause-is_tree : goal.returns-in_err-merged-clause-is_tree
returns-in_err-merged-clause-is_tree g c = tree_told _ c.args.self.now.edits c.args.self.now.below_root c.names_inside.ensures.is_tree

pub returns-clause-is_tree : goal.returns-clause-is_tree
returns-clause-is_tree g c = tree_told _ c.args.self.now.edits c.args.self.now.below_root c.names_inside.ensures.is_tree

pub returns-then-is_no_dir-clause-told : goal.returns-then-is_no_dir-clause-told
returns-then-is_no_dir-clause-told g c =
    let edits = c.args.self.now.edits in
    let same = c.fate_of.ensures ∙ ap (λ l. fate_of l c.parts.result.now) c.names_inside.ensures.edits_stay ∙ ap (fate_of edits) c.parts.ensures in
    let none : is_no_dir (fate_of edits c.args.dir.now) ≡ true = ap is_no_dir (sym same) ∙ sym c.is_no_dir.ensures ∙ c.if-is_no_dir.true in
    no_dir_told (g.T.Tree.files c.args.self.now.tree) edits c.args.dir.now _ none c.requires

pub returns-clause-told : goal.returns-clause-told
returns-clause-told g c =
    let edits = c.args.self.now.edits in
    list_told (g.T.Tree.files c.args.self.now.tree) edits c.args.dir.now _ _ c.in_ok-inner.ensures.told (subst (λ l. IsMerged l c.args.dir.now c.in_ok-inner.inner c.in_ok-merged.field-0) c.names_inside.ensures.edits_stay c.in_ok-merged.ensures)

pub returns-clause-wrong_kind : goal.returns-clause-wrong_kind
returns-clause-wrong_kind g c never =
    let edits = c.args.self.now.edits in
    let same = c.fate_of.ensures ∙ ap (λ l. fate_of l c.parts.result.now) c.names_inside.ensures.edits_stay ∙ ap (fate_of edits) c.parts.ensures in
    let some : is_no_dir (fate_of edits c.args.dir.now) ≡ false = ap is_no_dir (sym same) ∙ sym c.is_no_dir.ensures ∙ c.if-is_no_dir.false in
    absurd (dir_may_be edits c.args.dir.now some never)
