use Rattle.std.proofs.Common.{◌≡◌, ◌∙◌, ◌∷◌, ◌+◌, sym, ap, drop, List, ℕ}
use Rattle.report_questions.specs.Statements.{dotted_name}
use Rattle.report_questions.proofs.Parts.{dotted_step}
use Rattle.report_questions.proofs.names.with_parts.Goals as goal

pub loop-part-preserved : goal.loop-part-preserved
loop-part-preserved c =
    let parts : List (List ℕ) = c.args.parts.now in
    let i : ℕ = c.loop-part.part-index in
    let rest : List (List ℕ) = drop (i + 1) parts in
    c.loop-part.invariant ∙ dotted_step parts i c.loop-part.name _ c.loop-part-test.true c.part-item.is ∙ ap (λ (n : List ℕ). dotted_name (n ∷ rest)) (sym c.in_ok-put_part.ensures)
