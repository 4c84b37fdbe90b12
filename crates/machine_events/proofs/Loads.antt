-- Which loads are the same.
use Rattle.std.proofs.Common.{◌≡◌, ℕ, true, Option, Some, None, refl, ap}
use Rattle.std.proofs.lemmas.Bool.{false≢true, eqb-true, eq-eqb}
use Rattle.machine_events.specs.Loads.{is_same_load}

pub same_load : (a b : Option ℕ) → is_same_load a b ≡ true → a ≡ b
same_load None None h = refl
same_load None (Some y) h = absurd (false≢true h)
same_load (Some x) None h = absurd (false≢true h)
same_load (Some x) (Some y) h = ap (λ z. Some z) (eqb-true x y h)

pub same_load_self : (a : Option ℕ) → is_same_load a a ≡ true
same_load_self None = refl
same_load_self (Some x) = eq-eqb x x refl
