use Rattle.std.proofs.Common.{◌≡◌, ◌∙◌, ◌+◌, ◌++◌, ◌∷◌, [], sym, ap, List, take}
use Rattle.std.proofs.lemmas.List.{take_more}
use Rattle.py_value.specs.declared.value.Value.{Value}
use Rattle.meaning_script.specs.Statements.{either, takes_any, takes_kind}
use Rattle.step_compound.proofs.Within.{takes_more}
use Rattle.step_compound.proofs.kinds.takes_any.Goals as goal

pub loop-value-preserved : goal.loop-value-preserved
loop-value-preserved c =
    let xs : List Value = c.as_slice-value-items.result.now in
    let i = c.loop-value.value-index in
    let x : Value = c.value-item.result in
    let more : take (i + 1) xs ≡ take i xs ++ x ∷ [] = take_more xs i x c.loop-value-test.true ∙ ap (λ z. take i xs ++ z ∷ []) (sym c.value-item.is) in
    c.either-found.ensures
    ∙ ap (λ o. either o c.takes_kind.result) c.loop-value.invariant
    ∙ ap (either (takes_any c.args.kind (take i xs))) (c.takes_kind.ensures ∙ ap (takes_kind c.args.kind) c.kind_of.ensures)
    ∙ sym (ap (takes_any c.args.kind) more ∙ takes_more c.args.kind (take i xs) x)
