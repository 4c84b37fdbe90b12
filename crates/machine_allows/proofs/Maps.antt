-- A value of a finite map stands at some key.
use Rattle.std.proofs.Common.{◌≡◌, ℕ, Bool, true, false, cond, ◌&&◌, ◌||◌, List, [], ◌∷◌, map, Some, None, Ordering, Less, Equal, Greater, refl, sym, ap, ◌∙◌}
use Rattle.std.specs.Prelude.{slice_get, T, suc}
use Rattle.std.specs.List.{list_any}
use Rattle.std.specs.Ordering.{is_eq, is_lt, eq_by_cmp}
use Rattle.std.specs.Cmp.{IsTotalOrder, eq_by_cmp_equiv}
use Rattle.std.specs.FinMap.{FinMap, entries, entries_sorted, get, get-entries, values}
use Rattle.std.specs.FinMap.Entries.{find, is_sorted, below_all}
use Rattle.std.proofs.lemmas.Bool.{false≢true}

first : (a b : Bool) → T (a && b) → T a
first true b p = tt
first false b p = p

second : (a b : Bool) → T (a && b) → T b
second true b p = p
second false b p = absurd p

less_unequal : (o : Ordering) → T (is_lt o) → is_eq o ≡ false
less_unequal Less h = refl
less_unequal Equal h = absurd h
less_unequal Greater h = absurd h

is_equal : (o : Ordering) → is_eq o ≡ true → o ≡ Equal
is_equal Less h = absurd (false≢true h)
is_equal Equal h = refl
is_equal Greater h = absurd (false≢true h)

module _ {K X : Type 0} (R : K → K → Ordering) (o : IsTotalOrder R) where
  below_none : (k x : K) (es : List (K × X)) → R k x ≡ Equal → T (below_all R x es) → find R k es ≡ None
  below_none k x [] tied h = refl
  below_none k x (e ∷ es) tied h =
      ap (λ c. cond c (Some e.1) (find R k es)) (ap is_eq (o.congr k x e.0 tied) ∙ less_unequal (R x e.0) (first _ _ h))
      ∙ below_none k x es tied (second _ _ h)

  found_in : (es : List (K × X)) (p : X → Bool) → T (is_sorted R es) → list_any p (map (λ e. e.1) es) ≡ true → (k : K) × (x : X) × (find R k es ≡ Some x) × (p x ≡ true)
  found_in [] p sorted h = absurd (false≢true h)
  found_in (e ∷ es) p sorted h =
      elim (p e.1) as (λ c. p e.1 ≡ c → c || list_any p (map (λ e. e.1) es) ≡ true → (k : K) × (x : X) × (find R k (e ∷ es) ≡ Some x) × (p x ≡ true)) [
        | true ↦ λ q _. (e.0, e.1, ap (λ c. cond c (Some e.1) (find R e.0 es)) ((eq_by_cmp_equiv o).refl e.0), q)
        | false ↦ λ q rest_any.
            let rest = found_in es p (second _ _ sorted) rest_any in
            (rest.0, rest.1, later rest.0 rest.1 (second_none rest.0 rest.1 rest.2) rest.2, rest.3)
      ] refl h
    where
      later : (k : K) (x : X) → eq_by_cmp R k e.0 ≡ false → find R k es ≡ Some x → find R k (e ∷ es) ≡ Some x
      later k x apart is = ap (λ c. cond c (Some e.1) (find R k es)) apart ∙ is

      second_none : (k : K) (x : X) → find R k es ≡ Some x → eq_by_cmp R k e.0 ≡ false
      second_none k x is = elim (eq_by_cmp R k e.0) as (λ c. eq_by_cmp R k e.0 ≡ c → c ≡ false) [
        | true ↦ λ q. let none : None ≡ Some x = sym (below_none k e.0 es (is_equal (R k e.0) q) (first _ _ sorted)) ∙ is in absurd (let z : ⊥ = cc in z)
        | false ↦ λ q. refl
      ] refl

  pub any_value : (m : FinMap R X) (p : X → Bool) → list_any p (values m) ≡ true → (k : K) × (x : X) × (get m k ≡ Some x) × (p x ≡ true)
  any_value m p h =
      let at = found_in (entries m) p (entries_sorted m) h in
      (at.0, at.1, get-entries m at.0 ∙ at.2, at.3)

pub any_found : {X : Type 0} (p : X → Bool) (xs : List X) → list_any p xs ≡ true → (i : ℕ) × (x : X) × (slice_get xs i ≡ Some x) × (p x ≡ true)
any_found p [] h = absurd (false≢true h)
any_found p (y ∷ ys) h =
    elim (p y) as (λ c. p y ≡ c → c || list_any p ys ≡ true → (i : ℕ) × (x : _) × (slice_get (y ∷ ys) i ≡ Some x) × (p x ≡ true)) [
      | true ↦ λ q _. (0, y, refl, q)
      | false ↦ λ q rest. let at = any_found p ys rest in (suc at.0, at.1, at.2, at.3)
    ] refl h
