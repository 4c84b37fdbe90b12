use Rattle.std.proofs.Common.{sym, ap, ◌∙◌, map}
use Rattle.std.specs.List.{list_all}
use Rattle.value_operators.proofs.Lists.{list_all-fails}
use Rattle.value_operators.specs.Outcomes.{is_plain}
use Rattle.value_operators.proofs.outcome.+plain.Goals as goal

pub are_plain-returns-then-not-is_plain : goal.are_plain-returns-then-not-is_plain
are_plain-returns-then-not-is_plain t c =
    let low = c.loop-item-test.true in
    let fails = ap is_plain (sym c.item-item.is) ∙ sym c.if-not-is_plain.ensures in
    sym (list_all-fails is_plain c.as_slice-item-items.result.now _ c.item-item.result low fails) ∙ ap (λ xs. list_all (λ b. b) (map is_plain xs)) c.as_slice-item-items.ensures
