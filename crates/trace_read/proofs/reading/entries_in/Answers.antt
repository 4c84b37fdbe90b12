use Rattle.std.proofs.Common.{◌≡◌, ◌∙◌, sym, ap, ◌+◌, [], ◌∷◌, ◌++◌, drop, arith}
use Rattle.trace_fields.specs.Splitting.{views}
use Rattle.trace_read.specs.Reading.{entries_in}
use Rattle.trace_read.proofs.Steps.{with_front, moves, stops}
use Rattle.trace_read.proofs.Refusing.{refused_is}
use Rattle.trace_read.proofs.reading.entries_in.Goals as goal

pub returns-in-Err : goal.returns-in-Err
returns-in-Err c =
    refused_is (c.loop-i.i + 2) c.in-Err.refusal c.refused.result _ (entries_in c.args.old 2 (views c.args.lines.now ++ c.args.rest.now ∷ [])) c.in-Err.ensures c.refused.ensures
    (λ why is. c.loop-i.invariant ∙ stops c.args.old c.loop-i.entries (c.loop-i.i + 2) c.loop-i.i why c.args.lines.now c.args.rest.now _ c.loop-i-test.true is)

pub loop-i-preserved : goal.loop-i-preserved
loop-i-preserved c =
    let old = c.args.old in
    let lines = c.args.lines.now in
    let rest = c.args.rest.now in
    let i = c.loop-i.i in
    let there : i + 2 + 1 ≡ i + 1 + 2 = omega arith in
    c.loop-i.invariant ∙ moves old c.loop-i.entries (i + 2) i c.in-Ok.entry lines rest _ c.loop-i-test.true c.in-Ok.ensures
    ∙ ap (λ n. with_front (c.loop-i.entries ++ c.in-Ok.entry ∷ []) (entries_in old n (drop (i + 1) (views lines) ++ rest ∷ []))) there
    ∙ ap (λ es. with_front es (entries_in old (i + 1 + 2) (drop (i + 1) (views lines) ++ rest ∷ []))) (sym c.in_ok-push-in-Ok.ensures.ok)
