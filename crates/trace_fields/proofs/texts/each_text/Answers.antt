use Rattle.std.proofs.Common.{◌≡◌, ◌∙◌, sym, ap, ◌+◌, drop}
use Rattle.base_spelling.specs.Read.{text_in}
use Rattle.trace_fields.specs.Splitting.{views}
use Rattle.trace_fields.specs.Parts.{each}
use Rattle.trace_fields.proofs.Items.{with_items, moves, stops}
use Rattle.trace_fields.proofs.texts.each_text.Goals as goal

pub returns-in-None : goal.returns-in-None
returns-in-None c =
    let is = sym c.in_ok-text.ensures.exact ∙ c.in-None.is in
    sym (c.loop-i.invariant ∙ stops text_in c.loop-i.texts c.loop-i.i c.args.pieces.now _ c.loop-i-test.true is)

pub loop-i-preserved : goal.loop-i-preserved
loop-i-preserved c =
    let is = sym c.in_ok-text.ensures.exact ∙ c.in-Some.is in
    c.loop-i.invariant ∙ moves text_in c.loop-i.texts c.loop-i.i c.in-Some.text c.args.pieces.now _ c.loop-i-test.true is
    ∙ ap (λ ts. with_items ts (each text_in (drop (c.loop-i.i + 1) (views c.args.pieces.now)))) (sym c.in_ok-push-in-Some.ensures.ok)
