-- Items of lists that gained an item at the end, or have one item replaced.
use Rattle.std.proofs.Common.{◌≡◌, ◌≢◌, ◌⊎◌, ℕ, zero, suc, ◌<◌, List, [], ◌∷◌, ◌++◌, length, Some, refl, ap, inl, inr, arith}
use Rattle.std.specs.Prelude.{slice_get, slice_set}
use Rattle.module_table.specs.Lists.{changed, changed_to}

module _ {X : Type 0} where
  pub pushed_last : (xs : List X) (x : X) → slice_get (xs ++ x ∷ []) (length xs) ≡ Some x
  pushed_last [] x = refl
  pushed_last (y ∷ ys) x = pushed_last ys x

  pub pushed_keeps : (xs : List X) (x : X) (i : ℕ) (y : X) → slice_get xs i ≡ Some y → slice_get (xs ++ x ∷ []) i ≡ Some y
  pushed_keeps [] x i y is = cc
  pushed_keeps (z ∷ zs) x zero y is = is
  pushed_keeps (z ∷ zs) x (suc i) y is = pushed_keeps zs x i y is

  -- an item of a list with one more at the end is that one or was there before
  pub pushed_at : (xs : List X) (x : X) (i : ℕ) (y : X) → slice_get (xs ++ x ∷ []) i ≡ Some y → (slice_get xs i ≡ Some y) ⊎ ((i ≡ length xs) × (y ≡ x))
  pushed_at [] x zero y is = inr (refl, cc)
  pushed_at [] x (suc i) y is = inl is
  pushed_at (z ∷ zs) x zero y is = inl is
  pushed_at (z ∷ zs) x (suc i) y is = elim (pushed_at zs x i y is) [ inl old ↦ inl old | inr new ↦ inr (ap (λ n. suc n) new.0, new.1) ]

  pub within : (xs : List X) (i : ℕ) (y : X) → slice_get xs i ≡ Some y → i < length xs
  within [] i y is = cc
  within (z ∷ zs) zero y is = omega arith
  within (z ∷ zs) (suc i) y is = let less = within zs i y is in omega arith

  pub set_there : (xs : List X) (i : ℕ) (x y : X) → slice_get xs i ≡ Some x → slice_get (slice_set xs i y) i ≡ Some y
  set_there [] i x y is = cc
  set_there (z ∷ zs) zero x y is = refl
  set_there (z ∷ zs) (suc i) x y is = set_there zs i x y is

  pub set_elsewhere : (xs : List X) (i j : ℕ) (y : X) → j ≢ i → slice_get (slice_set xs i y) j ≡ slice_get xs j
  set_elsewhere [] i j y other = refl
  set_elsewhere (z ∷ zs) zero zero y other = absurd (other refl)
  set_elsewhere (z ∷ zs) zero (suc j) y other = refl
  set_elsewhere (z ∷ zs) (suc i) zero y other = refl
  set_elsewhere (z ∷ zs) (suc i) (suc j) y other = set_elsewhere zs i j y (λ e. other (ap (λ n. suc n) e))

  pub set_at : (xs : List X) (i j : ℕ) (y z : X) → slice_get (slice_set xs i y) j ≡ Some z → ((j ≡ i) × (z ≡ y)) ⊎ ((j ≢ i) × (slice_get xs j ≡ Some z))
  set_at [] i j y z is = cc
  set_at (x ∷ xs) zero zero y z is = inl (refl, cc)
  set_at (x ∷ xs) zero (suc j) y z is = inr (λ e. omega arith, is)
  set_at (x ∷ xs) (suc i) zero y z is = inr (λ e. omega arith, is)
  set_at (x ∷ xs) (suc i) (suc j) y z is = elim (set_at xs i j y z is) [
    | inl here ↦ inl (ap (λ n. suc n) here.0, here.1)
    | inr there ↦ inr (λ e. there.0 (omega arith), there.1)
  ]

  pub changed_is : (f : X → X) (xs : List X) (i : ℕ) (x : X) → slice_get xs i ≡ Some x → changed f xs i ≡ slice_set xs i (f x)
  changed_is f xs i x is = ap (changed_to f xs i) is
