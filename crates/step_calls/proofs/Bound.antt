-- Parameters behind the last argument.
use Rattle.std.proofs.Common.{◌≡◌, ◌∙◌, refl, sym, ap, ℕ, List, [], ◌∷◌, ◌++◌, map}
use Rattle.std.proofs.lemmas.List.{append-nil}
use Rattle.std.specs.FinMap.{FinMap}
use Rattle.std.specs.Ordering.{nat_cmp}
use Rattle.std.specs.Cmp.Lexicographic.{slice_cmp}
use Rattle.py_value.specs.declared.value.Value.{Value}
use Rattle.meaning_script.specs.Meaning.{bound}

none_more : (names : List (List ℕ)) (locals : FinMap (slice_cmp nat_cmp) Value) → bound names [] locals ≡ locals
none_more [] locals = refl
none_more (x ∷ xs) locals = refl

same : (vs : List Value) → map (λ v. v) vs ≡ vs
same [] = refl
same (v ∷ vs) = ap (λ ws. v ∷ ws) (same vs)

-- where these are all
pub all_bound : (names rest : List (List ℕ)) (vs all : List Value) (before locals : FinMap (slice_cmp nat_cmp) Value) → map (λ v. v) vs ≡ all → bound names (vs ++ []) before ≡ bound rest [] locals → locals ≡ bound names all before
all_bound names rest vs all before locals these so_far = sym (none_more rest locals) ∙ sym so_far ∙ ap (λ ws. bound names ws before) (append-nil vs ∙ sym (same vs) ∙ these)
