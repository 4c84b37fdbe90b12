use Rattle.std.proofs.Common.{◌≡◌, ◌∙◌, ◌∷◌, ◌+◌, sym, ap, subst, drop, get_or, List, ℕ}
use Rattle.meaning_script.specs.ImportStatements.{dotted_name}
use Rattle.step_imports.proofs.Lists.{dotted_step}
use Rattle.step_imports.proofs.names.with_parts.Goals as goal

pub loop-part-preserved : goal.loop-part-preserved
loop-part-preserved c =
    let parts : List (List ℕ) = c.args.parts.now in
    let i : ℕ = c.loop-part.part-index in
    let part : List ℕ = c.as_str.result.now in
    let rest : List (List ℕ) = drop (i + 1) parts in
    let is : part ≡ get_or parts i part = subst (λ (m : List ℕ). m ≡ get_or parts i m) (sym c.as_str.ensures) c.part-item.is in
    c.loop-part.invariant ∙ dotted_step parts i c.loop-part.name part c.loop-part-test.true is ∙ ap (λ (n : List ℕ). dotted_name (n ∷ rest)) (sym c.in_ok-put_part.ensures)
