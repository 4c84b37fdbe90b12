use Rattle.std.proofs.Common.{◌∙◌, sym, ◌+◌}
use Rattle.words_rounds.proofs.Steps.{moves, stops, told}
use Rattle.words_rounds.proofs.read.read_lines.Goals as goal

pub returns-in-None : goal.returns-in-None
returns-in-None c =
    let is = sym c.in_ok-more.ensures ∙ c.in-None.is in
    told _ (c.loop-i.i + 1) c.refusal.result (c.loop-i.invariant ∙ stops (c.loop-i.i + 1) c.loop-i.i c.loop-i.draft c.args.lines.now c.args.rest.now _ c.loop-i-test.true is) c.refusal.ensures

pub loop-i-preserved : goal.loop-i-preserved
loop-i-preserved c =
    let is = sym c.in_ok-more.ensures ∙ c.in-Some.is in
    c.loop-i.invariant ∙ moves (c.loop-i.i + 1) c.loop-i.i c.loop-i.draft c.in-Some.more c.args.lines.now c.args.rest.now _ c.loop-i-test.true is
