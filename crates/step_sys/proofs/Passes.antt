-- Whether an item of a list passes a test.
use Rattle.std.proofs.Common.{◌≡◌, ◌∙◌, ap, refl, ℕ, zero, suc, ◌<◌, List, [], ◌∷◌, Bool, true, false, ◌||◌, length, get_or, arith, map}
use Rattle.std.specs.List.{list_any}

or_true : (b : Bool) → b || true ≡ true
or_true true = refl
or_true false = refl

-- one item that passes
pub list_any-passes : {X : Type 0} (p : X → Bool) (xs : List X) (k : ℕ) (d : X) → k < length xs → p (get_or xs k d) ≡ true → list_any (λ b. b) (map p xs) ≡ true
list_any-passes p [] k d h e = absurd (omega arith)
list_any-passes p (x ∷ xs) zero d h e = ap (λ b. b || list_any (λ c. c) (map p xs)) e
list_any-passes p (x ∷ xs) (suc k) d h e =
    let below : k < length xs = omega arith in
    ap (λ b. p x || b) (list_any-passes p xs k d below e) ∙ or_true (p x)
