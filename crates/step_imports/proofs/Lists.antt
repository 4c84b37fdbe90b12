-- Names that are put together part by part.
use Rattle.std.proofs.Common.{◌≡◌, ◌∙◌, refl, sym, ap, ℕ, zero, suc, ◌+◌, ◌≤◌, ◌<◌, arith, nat_eq, List, [], ◌∷◌, ◌++◌, length, drop, get_or, append_assoc}
use Rattle.std.proofs.Math.Dec.{eqb-zero-suc, eqb-suc-suc}
use Rattle.std.proofs.lemmas.List.{drop_more}
use Rattle.spec_core.specs.Names.{joined}
use Rattle.meaning_script.specs.ImportStatements.{dotted_name, is_last}

-- the first two parts can be put together first
pub dotted_more : (x y : List ℕ) (ys : List (List ℕ)) → dotted_name (joined x y ∷ ys) ≡ dotted_name (x ∷ y ∷ ys)
dotted_more x y [] = refl
dotted_more x y (z ∷ zs) = append_assoc x (46 ∷ y) (46 ∷ dotted_name (z ∷ zs))

pub last_from : (parts : List (List ℕ)) (n : ℕ) → n ≤ length parts → nat_eq n (length parts) ≡ is_last (drop n parts)
last_from [] zero h = refl
last_from [] (suc n) h = absurd (omega (arith, h))
last_from (x ∷ xs) zero h = eqb-zero-suc (length xs)
last_from (x ∷ xs) (suc n) h = eqb-suc-suc n (length xs) ∙ last_from xs n (omega (arith, h))

pub dotted_step : (xs : List (List ℕ)) (i : ℕ) (name x : List ℕ) → i < length xs → x ≡ get_or xs i x
    → dotted_name (name ∷ drop i xs) ≡ dotted_name (joined name x ∷ drop (i + 1) xs)
dotted_step xs i name x h is = ap (λ (ys : List (List ℕ)). dotted_name (name ∷ ys)) (drop_more xs i x h ∙ ap (λ z. z ∷ drop (i + 1) xs) (sym is)) ∙ sym (dotted_more name x (drop (i + 1) xs))
