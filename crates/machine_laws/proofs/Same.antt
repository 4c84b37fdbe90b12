-- The bones of what an event leaves, part by part.
use Rattle.std.proofs.Common.{◌≡◌, ℕ, zero, suc, Bool, true, false, cond, List, [], ◌∷◌, Option, Some, None, refl, sym, ap, ◌∙◌, map}
use Rattle.std.specs.Prelude.{slice_get, slice_set}
use Rattle.std.specs.Option.{option_map}
use Rattle.module_table.specs.Lists.{changed, changed_to}

-- one of two
pub either : {X : Type 0} (P : X → Type 0) (b : Bool) (x y : X) → P x → P y → P (cond b x y)
either P true x y h k = h
either P false x y h k = k

module _ {X Y : Type 0} (g : X → Y) where
  pub get_map : (xs : List X) (i : ℕ) → slice_get (map g xs) i ≡ option_map g (slice_get xs i)
  get_map [] i = refl
  get_map (x ∷ xs) zero = refl
  get_map (x ∷ xs) (suc i) = get_map xs i

  pub set_map : (xs : List X) (i : ℕ) (x : X) → map g (slice_set xs i x) ≡ slice_set (map g xs) i (g x)
  set_map [] i x = refl
  set_map (y ∷ ys) zero x = refl
  set_map (y ∷ ys) (suc i) x = ap (λ r. g y ∷ r) (set_map ys i x)

  -- a change that is a change of what g shows
  pub changed_map : (f : X → X) (h : Y → Y) → ((x : X) → g (f x) ≡ h (g x)) → (xs : List X) (i : ℕ) → map g (changed f xs i) ≡ changed h (map g xs) i
  changed_map f h same xs i = by (slice_get xs i) refl
    where
      by : (o : Option X) → slice_get xs i ≡ o → map g (changed_to f xs i o) ≡ changed_to h (map g xs) i (slice_get (map g xs) i)
      by None is = ap (changed_to h (map g xs) i) (sym (get_map xs i ∙ ap (option_map g) is))
      by (Some x) is =
          set_map xs i (f x) ∙ ap (slice_set (map g xs) i) (same x)
          ∙ ap (changed_to h (map g xs) i) (sym (get_map xs i ∙ ap (option_map g) is))

  kept_set : (xs : List X) (i : ℕ) (x y : X) → slice_get xs i ≡ Some x → g y ≡ g x → map g (slice_set xs i y) ≡ map g xs
  kept_set [] i x y is same = refl
  kept_set (z ∷ zs) zero x y is same = let here : z ≡ x = cc in ap (λ r. r ∷ map g zs) (same ∙ ap g (sym here))
  kept_set (z ∷ zs) (suc i) x y is same = ap (λ r. g z ∷ r) (kept_set zs i x y is same)

  -- a change that g does not show
  pub kept_map : (f : X → X) → ((x : X) → g (f x) ≡ g x) → (xs : List X) (i : ℕ) → map g (changed f xs i) ≡ map g xs
  kept_map f same xs i = by (slice_get xs i) refl
    where
      by : (o : Option X) → slice_get xs i ≡ o → map g (changed_to f xs i o) ≡ map g xs
      by None is = refl
      by (Some x) is = kept_set xs i x (f x) is (same x)

  pub unmap : (xs : List X) (i : ℕ) (y : Y) → slice_get (map g xs) i ≡ Some y → (x : X) × (slice_get xs i ≡ Some x) × (g x ≡ y)
  unmap [] i y is = cc
  unmap (x ∷ xs) zero y is = (x, refl, cc)
  unmap (x ∷ xs) (suc i) y is = unmap xs i y is

  pub map_at : (xs : List X) (i : ℕ) (x : X) → slice_get xs i ≡ Some x → slice_get (map g xs) i ≡ Some (g x)
  map_at xs i x is = get_map xs i ∙ ap (option_map g) is
