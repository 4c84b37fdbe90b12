use Rattle.std.proofs.Common.{◌∙◌, ◌<◌, ap, length, get_or, arith}
use Rattle.tree_overlay.proofs.NameLemmas.{puts_next}
use Rattle.tree_overlay.proofs.names.add_put.Goals as goal

pub loop-edit-preserved : goal.loop-edit-preserved
loop-edit-preserved c other =
    let edits = c.args.edits.now in
    let same = c.as_slice-edit-items.ensures in
    let lt : c.loop-edit.edit-index < length edits = omega (arith, ap length same) in
    puts_next c.args.dir.now edits c.loop-edit.edit-index c.edit-item.result other _ _ _ _ lt (c.edit-item.is ∙ ap (λ l. get_or l c.loop-edit.edit-index c.edit-item.result) same)
    (c.loop-edit.invariant other) (c.in_ok-add_new.ensures other)
