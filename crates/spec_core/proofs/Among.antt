-- One text of a list that passes a test.
use Rattle.std.proofs.Common.{◌≡◌, refl, ap, ◌∙◌, ℕ, zero, suc, ◌<◌, List, [], ◌∷◌, Bool, true, false, ◌||◌, length, get_or, map, Bor, arith}
use Rattle.std.specs.List.{list_any}

or_true : (b : Bool) → b || true ≡ true
or_true true = refl
or_true false = refl

pub among : (words : List (Bor (List ℕ))) (p : List ℕ → Bool) (k : ℕ) (d : Bor (List ℕ)) → k < length words → p (get_or words k d).now ≡ true → list_any p (map (λ x. x.now) words) ≡ true
among [] p k d low e = absurd (omega arith)
among (w ∷ ws) p zero d low e = ap (λ b. b || list_any p (map (λ x. x.now) ws)) e
among (w ∷ ws) p (suc k) d low e = ap (λ b. p w.now || b) (among ws p k d (omega arith) e) ∙ or_true (p w.now)
