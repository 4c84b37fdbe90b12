-- Tests of each item of a list.
use Rattle.std.proofs.Common.{◌≡◌, ◌∙◌, ap, refl, ℕ, zero, suc, ◌<◌, List, [], ◌∷◌, Bool, true, false, ◌&&◌, length, get_or, arith, map}
use Rattle.std.specs.List.{list_all}

and_false : (b : Bool) → b && false ≡ false
and_false true = refl
and_false false = refl

-- one item that fails
pub list_all-fails : {X : Type 0} (p : X → Bool) (xs : List X) (k : ℕ) (d : X) → k < length xs → p (get_or xs k d) ≡ false → list_all (λ b. b) (map p xs) ≡ false
list_all-fails p [] k d h e = absurd (omega arith)
list_all-fails p (x ∷ xs) zero d h e = ap (λ b. b && list_all (λ c. c) (map p xs)) e
list_all-fails p (x ∷ xs) (suc k) d h e =
    let below : k < length xs = omega arith in
    ap (λ b. p x && b) (list_all-fails p xs k d below e) ∙ and_false (p x)
