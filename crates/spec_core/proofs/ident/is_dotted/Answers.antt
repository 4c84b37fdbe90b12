use Rattle.std.proofs.Common.{rules, ◌∙◌, sym}
use Rattle.std.proofs.lemmas.Result.{IfOk-weaker}
use Rattle.spec_core.proofs.Dots.{dotted-none, dotted_good, dotted_bad}
use Rattle.spec_core.proofs.ident.is_dotted.Goals as goal

pub returns-then-not-branch : goal.returns-then-not-branch
returns-then-not-branch c =
    let cut = c.in-Some.ensures.value in
    let bad = sym c.in_ok-is_name.ensures ∙ c.if-not-branch.true in
    sym (c.parts.invariant.same ∙ dotted_bad c.parts.rest.now c.in-Some.front.now c.in-Some.tail.now cut.0 cut.1 bad)

pub parts-preserved : goal.parts-preserved
parts-preserved c =
    let cut = c.in-Some.ensures.value in
    let good = sym c.in_ok-is_name.ensures ∙ c.if-not-branch.false in record {
      same = c.parts.invariant.same ∙ dotted_good c.parts.rest.now c.in-Some.front.now c.in-Some.tail.now cut.0 cut.1 good;
      utf8 = search rules;
    }

pub returns : goal.returns
returns c = IfOk-weaker c.is_name-2.result _ _ (λ b e. e ∙ sym (dotted-none c.parts.rest.now c.in_default.ensures.value) ∙ sym c.parts.invariant.same) c.is_name-2.ensures
