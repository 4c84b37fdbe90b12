use Rattle.std.proofs.Common.{◌≡◌, ◌∙◌, sym, ap, ◌+◌, drop}
use Rattle.std.proofs.lemmas.Result.{IfOk-weaker}
use Rattle.trace_fields.specs.Splitting.{views}
use Rattle.trace_fields.specs.Parts.{each}
use Rattle.trace_fields.specs.Values.{value_in}
use Rattle.trace_fields.proofs.Items.{with_items, moves, stops}
use Rattle.trace_fields.proofs.Whole.{value_flat, value_deep}
use Rattle.trace_fields.proofs.value.+values.Goals as goal

pub each_value-returns-in-None : goal.each_value-returns-in-None
each_value-returns-in-None t c =
    let is = sym c.in_ok-value.ensures ∙ c.in-None.is in
    sym (c.loop-i.invariant ∙ stops (value_in c.args.levels) c.loop-i.items c.loop-i.i c.args.pieces.now _ c.loop-i-test.true is)

pub each_value-loop-i-preserved : goal.each_value-loop-i-preserved
each_value-loop-i-preserved t c =
    let is = sym c.in_ok-value.ensures ∙ c.in-Some.is in
    c.loop-i.invariant ∙ moves (value_in c.args.levels) c.loop-i.items c.loop-i.i c.in-Some.value c.args.pieces.now _ c.loop-i-test.true is
    ∙ ap (λ vs. with_items vs (each (value_in c.args.levels) (drop (c.loop-i.i + 1) (views c.args.pieces.now)))) (sym c.in_ok-push-in-Some.ensures.ok)

pub value_within-returns-then-levels-eq0 : goal.value_within-returns-then-levels-eq0
value_within-returns-then-levels-eq0 t c = IfOk-weaker c.plain_in.result _ _ (λ o e. e ∙ value_flat c.args.levels c.args.field.now c.if-levels-eq0.true) c.plain_in.ensures

pub value_within-returns-else-levels-eq0 : goal.value_within-returns-else-levels-eq0
value_within-returns-else-levels-eq0 t c = IfOk-weaker c.nested.result _ _ (λ o e. e ∙ value_deep c.args.levels c.args.field.now c.if-levels-eq0.false) c.nested.ensures
