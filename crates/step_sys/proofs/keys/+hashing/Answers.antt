use Rattle.std.proofs.Common.{sym, ap, ◌∙◌, map}
use Rattle.std.specs.List.{list_any}
use Rattle.meaning_script.specs.Entries.{is_unhashable}
use Rattle.step_sys.proofs.Passes.{list_any-passes}
use Rattle.step_sys.proofs.keys.+hashing.Goals as goal

pub holds_unhashable-returns-then-is_unhashable : goal.holds_unhashable-returns-then-is_unhashable
holds_unhashable-returns-then-is_unhashable t c =
    let low = c.loop-item-test.true in
    let holds = ap is_unhashable (sym c.item-item.is) ∙ sym c.if-is_unhashable.ensures in
    sym (list_any-passes is_unhashable c.as_slice-item-items.result.now _ c.item-item.result low holds)
    ∙ ap (λ xs. list_any (λ b. b) (map is_unhashable xs)) c.as_slice-item-items.ensures
