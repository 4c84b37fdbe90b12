-- Lists whose places are counted from the last.
use Rattle.std.proofs.Common.{◌≡◌, ◌<◌, ◌≤◌, ◌+◌, ◌∙◌, ℕ, zero, suc, List, [], ◌∷◌, ◌++◌, length, get_or, take, drop, append-nil, append_assoc, refl, sym, ap, subst, arith, Some, None}
use Rattle.std.specs.Prelude.{slice_get}
use mathlib.Core.List.{IsPrefix}
use Rattle.std.specs.List.{All, AllZip, AllByRecursion}
use Rattle.std.proofs.lemmas.List.Elements.{All-from_recursion, recursion_from_All}
use Rattle.drive_round.specs.Workers.{Descends}

module _ {W : Type 0} (P : ℕ → W → Type 0) where
  -- one more at the end has the next lower place
  pub descends-push : (n k : ℕ) (ws : List W) (w : W) → Descends P n ws → n ≡ length ws + suc k → P k w → Descends P n (ws ++ w ∷ [])
  descends-push zero k [] w d e p = absurd (omega (arith, e))
  descends-push (suc n) k [] w d e p = let same : k ≡ n = omega (arith, e) in (subst (λ j. P j w) same p, tt)
  descends-push zero k (x ∷ ws) w d e p = absurd d
  descends-push (suc n) k (x ∷ ws) w d e p = let less : n ≡ length ws + suc k = omega (arith, e) in (d.0, descends-push n k ws w d.1 less p)

  descends-pop : (n : ℕ) (ws : List W) (w : W) → Descends P n (ws ++ w ∷ []) → Descends P n ws × ((k : ℕ) × (n ≡ length ws + suc k) × P k w)
  descends-pop zero [] w d = absurd d
  descends-pop (suc n) [] w d = (tt, (n, omega arith, d.0))
  descends-pop zero (x ∷ ws) w d = absurd d
  descends-pop (suc n) (x ∷ ws) w d = let rest = descends-pop n ws w d.1 in let less = rest.1.1 in ((d.0, rest.0), (rest.1.0, omega (arith, less), rest.1.2))

  descends-front : (n : ℕ) (ws rest : List W) → Descends P n (ws ++ rest) → Descends P n ws
  descends-front n [] rest d = tt
  descends-front zero (x ∷ ws) rest d = absurd d
  descends-front (suc n) (x ∷ ws) rest d = (d.0, descends-front n ws rest d.1)

  -- the element behind a front has the place that the rest leaves
  pub descends-at : (ws left : List W) (w : W) (k : ℕ) → IsPrefix (left ++ w ∷ []) ws → k + suc (length left) ≡ length ws → Descends P (length ws) ws → P k w
  descends-at ws left w k pre size d =
      let last = descends-pop (length ws) left w (descends-front (length ws) (left ++ w ∷ []) pre.0 (subst (Descends P (length ws)) (sym pre.1) d)) in
      let bound = last.1.1 in
      let same : last.1.0 ≡ k = omega (arith, bound, size) in
      subst (λ j. P j w) same last.1.2

  -- the places are below the number of all
  descends-under : (Q : ℕ → W → Type 0) (n : ℕ) → ((k : ℕ) (w : W) → k < n → P k w → Q k w) → (m : ℕ) (ws : List W) → m ≤ n → Descends P m ws → Descends Q m ws
  descends-under Q n to m [] le d = tt
  descends-under Q n to zero (x ∷ ws) le d = absurd d
  descends-under Q n to (suc m) (x ∷ ws) le d = (to m x (omega (arith, le)) d.0, descends-under Q n to m ws (omega (arith, le)) d.1)

  pub descends-below : (Q : ℕ → W → Type 0) (n : ℕ) (ws : List W) → ((k : ℕ) (w : W) → k < n → P k w → Q k w) → Descends P n ws → Descends Q n ws
  descends-below Q n ws to d = descends-under Q n to n ws (omega arith) d

  -- what holds of an element at any place below n holds of all
  each-of : (Q : W → Type 0) (n : ℕ) → ((k : ℕ) (w : W) → k < n → P k w → Q w) → (m : ℕ) (ws : List W) → m ≤ n → Descends P m ws → AllByRecursion Q ws
  each-of Q n to m [] le d = tt
  each-of Q n to zero (x ∷ ws) le d = absurd d
  each-of Q n to (suc m) (x ∷ ws) le d = (to m x (omega (arith, le)) d.0, each-of Q n to m ws (omega (arith, le)) d.1)

  pub descends-all : (Q : W → Type 0) (n : ℕ) → ((k : ℕ) (w : W) → k < n → P k w → Q w) → (ws : List W) → Descends P n ws → All Q ws
  descends-all Q n to ws d = All-from_recursion Q ws (each-of Q n to n ws (omega arith) d)

  pub descends-zip : (Q : ℕ → W → Type 0) (R : W → W → Type 0) → ((k : ℕ) (old new : W) → P k old → R old new → Q k new)
      → (n : ℕ) (olds news : List W) → Descends P n olds → AllZip R olds news → Descends Q n news
  descends-zip Q R to n [] [] d z = tt
  descends-zip Q R to n [] (y ∷ news) d z = absurd z
  descends-zip Q R to n (x ∷ olds) [] d z = absurd z
  descends-zip Q R to zero (x ∷ olds) (y ∷ news) d z = absurd d
  descends-zip Q R to (suc n) (x ∷ olds) (y ∷ news) d z = (to n x y d.0 z.0, descends-zip Q R to n olds news d.1 z.1)

pub zip-length : {W : Type 0} (R : W → W → Type 0) (xs ys : List W) → AllZip R xs ys → length ys ≡ length xs
zip-length R [] [] z = refl
zip-length R [] (y ∷ ys) z = absurd z
zip-length R (x ∷ xs) [] z = absurd z
zip-length R (x ∷ xs) (y ∷ ys) z = ap suc (zip-length R xs ys z.1)

-- the element behind a front
pub at-seam : {A : Type 0} (xs ys : List A) (x : A) → slice_get ((xs ++ x ∷ []) ++ ys) (length xs) ≡ Some x
at-seam [] ys x = refl
at-seam (y ∷ xs) ys x = at-seam xs ys x

none-some : {A : Type 0} (x : A) → None ≡ Some x → ⊥
none-some x e = cc

some-inj : {A : Type 0} (x y : A) → Some x ≡ Some y → x ≡ y
some-inj x y e = cc

-- what holds of all elements holds of one that stands there
pub all-at : {A : Type 0} (P : A → Type 0) (xs : List A) (k : ℕ) (x : A) → AllByRecursion P xs → slice_get xs k ≡ Some x → P x
all-at P [] k x all e = absurd (none-some x e)
all-at P (y ∷ xs) zero x all e = subst P (some-inj y x e) all.0
all-at P (y ∷ xs) (suc k) x all e = all-at P xs k x all.1 e

pub at-front : {A : Type 0} (xs front : List A) (x : A) → IsPrefix (front ++ x ∷ []) xs → slice_get xs (length front) ≡ Some x
at-front xs front x pre = ap (λ l. slice_get l (length front)) (sym pre.1) ∙ at-seam front pre.0 x

pub all-front : {A : Type 0} (P : A → Type 0) (xs front : List A) (x : A) → IsPrefix (front ++ x ∷ []) xs → All P xs → P x
all-front P xs front x pre all = all-at P xs (length front) x (recursion_from_All P xs all) (at-front xs front x pre)

-- a front without its last element
pub shorter : {A : Type 0} (xs whole front : List A) (x : A) → IsPrefix whole xs → whole ≡ front ++ x ∷ [] → IsPrefix front xs
shorter xs whole front x pre e = (x ∷ pre.0, sym (append_assoc front (x ∷ []) pre.0) ∙ (ap (λ l. l ++ pre.0) (sym e) ∙ pre.1))

pub zip-from : {W : Type 0} (R : W → W → Type 0) (xs ys : List W) → length ys ≡ length xs → ((i : ℕ) (d : W) → i < length xs → R (get_or xs i d) (get_or ys i d)) → AllZip R xs ys
zip-from R [] [] len each = tt
zip-from R [] (y ∷ ys) len each = absurd (omega (arith, len))
zip-from R (x ∷ xs) [] len each = absurd (omega (arith, len))
zip-from R (x ∷ xs) (y ∷ ys) len each = (each 0 x (omega arith), zip-from R xs ys (omega (arith, len)) (λ i d lt. each (suc i) d (omega (arith, lt))))

pub take-all : {W : Type 0} (l : List W) → take (length l) l ≡ l
take-all [] = refl
take-all (x ∷ xs) = ap (λ l. x ∷ l) (take-all xs)

-- what was taken of a list that is all there
pub taken-back : {W : Type 0} (old new : List W) (n : ℕ) → n ≡ length old → length new ≡ length old → take n (new ++ drop (length new) old) ≡ new
taken-back old new n size same =
    let none : drop (length new) old ≡ [] = ap (λ k. drop k old) same ∙ drop-all old in
    ap (λ l. take n (new ++ l)) none ∙ (ap (take n) (append-nil new) ∙ (ap (λ k. take k new) (size ∙ sym same) ∙ take-all new))
  where
    drop-all : {W : Type 0} (l : List W) → drop (length l) l ≡ []
    drop-all [] = refl
    drop-all (x ∷ xs) = drop-all xs
