use Rattle.std.proofs.Common.{◌∙◌, ◌+◌, ◌-◌, sym, ap}
use Rattle.bundle_hook.specs.Reading.{lines_in}
use Rattle.bundle_hook.proofs.Fronts.{cut_none, cut_some, no_line, at_last, no_entry, one_entry, all_lines}
use Rattle.bundle_hook.proofs.read.lines_in.Goals as goal

pub returns-in_default : goal.returns-in_default
returns-in_default c =
    let cut = cut_none c.cut_at.result c.loop-i.rest.now c.cut_at.ensures c.in_default.is in
    sym (c.loop-i.invariant ∙ no_line c.args.most c.loop-i.i c.loop-i.done c.loop-i.rest.now c.loop-i-test.true cut)

pub returns-then-is_last : goal.returns-then-is_last
returns-then-is_last c =
    let cut = cut_some c.cut_at.result c.loop-i.rest.now c.in-Some.line c.in-Some.more c.cut_at.ensures c.in-Some.is in
    let last = sym c.is_last.ensures ∙ c.if-is_last.true in
    sym (c.loop-i.invariant ∙ at_last c.args.most c.loop-i.i c.loop-i.done c.loop-i.rest.now c.in-Some.line.now c.in-Some.more.now c.loop-i-test.true cut last)

pub returns-in-None : goal.returns-in-None
returns-in-None c =
    let cut = cut_some c.cut_at.result c.loop-i.rest.now c.in-Some.line c.in-Some.more c.cut_at.ensures c.in-Some.is in
    let other = sym c.is_last.ensures ∙ c.if-is_last.false in
    let none = sym c.in_ok-entry.ensures ∙ c.in-None.is in
    sym (c.loop-i.invariant ∙ no_entry c.args.most c.loop-i.i c.loop-i.done c.loop-i.rest.now c.in-Some.line.now c.in-Some.more.now c.loop-i-test.true cut other none)

pub loop-i-preserved : goal.loop-i-preserved
loop-i-preserved c =
    let cut = cut_some c.cut_at.result c.loop-i.rest.now c.in-Some.line c.in-Some.more c.cut_at.ensures c.in-Some.is in
    let other = sym c.is_last.ensures ∙ c.if-is_last.false in
    let some = sym c.in_ok-entry.ensures ∙ c.in-Some-2.is in
    c.loop-i.invariant ∙ one_entry c.args.most c.loop-i.i c.loop-i.done c.in-Some-2.entry c.loop-i.rest.now c.in-Some.line.now c.in-Some.more.now c.loop-i-test.true cut other some
    ∙ ap (λ d. lines_in (c.args.most - (c.loop-i.i + 1)) d c.in-Some.more.now) (sym c.in_ok-push-in-Some-2.ensures.ok)

pub returns : goal.returns
returns c = sym (c.loop-i.invariant ∙ all_lines c.args.most c.loop-i.i c.loop-i.done c.loop-i.rest.now c.loop-i-test.false)
