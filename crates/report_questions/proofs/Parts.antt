-- Names that are put together part by part.
use Rattle.std.proofs.Common.{◌≡◌, ◌∙◌, refl, sym, ap, ℕ, ◌+◌, ◌<◌, List, [], ◌∷◌, ◌++◌, length, drop, get_or, append_assoc}
use Rattle.std.proofs.lemmas.List.{drop_more}
use Rattle.spec_core.specs.Names.{joined}
use Rattle.report_questions.specs.Statements.{dotted_name}

-- the first two parts can be put together first
dotted_more : (x y : List ℕ) (ys : List (List ℕ)) → dotted_name (joined x y ∷ ys) ≡ dotted_name (x ∷ y ∷ ys)
dotted_more x y [] = refl
dotted_more x y (z ∷ zs) = append_assoc x (46 ∷ y) (46 ∷ dotted_name (z ∷ zs))

-- the part at this place comes behind the name
pub dotted_step : (xs : List (List ℕ)) (i : ℕ) (name x : List ℕ) → i < length xs → x ≡ get_or xs i x
    → dotted_name (name ∷ drop i xs) ≡ dotted_name (joined name x ∷ drop (i + 1) xs)
dotted_step xs i name x h is = ap (λ (ys : List (List ℕ)). dotted_name (name ∷ ys)) (drop_more xs i x h ∙ ap (λ z. z ∷ drop (i + 1) xs) (sym is)) ∙ sym (dotted_more name x (drop (i + 1) xs))
