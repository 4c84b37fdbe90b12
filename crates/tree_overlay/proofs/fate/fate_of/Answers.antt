use Rattle.std.proofs.Common.{◌∙◌, ◌<◌, sym, ap, length, get_or, arith}
use Rattle.tree_overlay.specs.Fates.{after}
use Rattle.tree_overlay.proofs.Within.{fate_next}
use Rattle.tree_overlay.proofs.fate.fate_of.Goals as goal

pub loop-edit-preserved : goal.loop-edit-preserved
loop-edit-preserved c =
    let edits = c.args.edits.now in
    let same = c.as_slice-edit-items.ensures in
    let lt : c.loop-edit.edit-index < length edits = omega (arith, ap length same) in
    c.after-seen.ensures ∙ ap (after c.edit-item.result c.args.path.now) c.loop-edit.invariant
    ∙ sym (fate_next edits c.args.path.now c.loop-edit.edit-index c.edit-item.result lt (c.edit-item.is ∙ ap (λ l. get_or l c.loop-edit.edit-index c.edit-item.result) same))
