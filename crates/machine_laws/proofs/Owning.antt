-- A thread that owns a lock, and an open load, are found by the tests.
use Rattle.std.proofs.Common.{◌≡◌, ℕ, zero, suc, Bool, true, false, cond, ◌||◌, List, [], ◌∷◌, Option, Some, None, Ordering, refl, sym, ap, ◌∙◌, map}
use Rattle.std.specs.Prelude.{slice_get, ◌==◌}
use Rattle.std.specs.Option.{option_map}
use Rattle.std.specs.List.{list_any}
use Rattle.std.specs.Ordering.{is_eq, nat_cmp}
use Rattle.std.specs.Cmp.Lexicographic.{slice_cmp}
use Rattle.std.specs.FinMap.{entries, get-entries, find}
use Rattle.std.proofs.lemmas.Bool.{eq-eqb}
use Rattle.module_lock.specs.declared.locks.Lock.{Lock}
use Rattle.module_lock.specs.Table.{Table, lock_of, owner_of, holds}

pub any_at : {X : Type 0} (p : X → Bool) (xs : List X) (i : ℕ) (x : X) → slice_get xs i ≡ Some x → p x ≡ true → list_any p xs ≡ true
any_at p [] i x is h = cc
any_at p (y ∷ ys) zero x is h = let same : y ≡ x = cc in rw (ap p same ∙ h) refl
any_at p (y ∷ ys) (suc i) x is h = elim (p y) as (λ c. c || list_any p ys ≡ true) [ true ↦ refl | false ↦ any_at p ys i x is h ]

found : {K X : Type 0} (R : K → K → Ordering) (q : K) (es : List (K × X)) (p : X → Bool) (x : X) → find R q es ≡ Some x → p x ≡ true → list_any p (map (λ e. e.1) es) ≡ true
found R q [] p x is h = cc
found R q (e ∷ es) p x is h =
    elim (is_eq (R q e.0)) as (λ c. cond c (Some e.1) (find R q es) ≡ Some x → p e.1 || list_any p (map (λ e. e.1) es) ≡ true) [
      | true ↦ λ i. let same : e.1 ≡ x = cc in rw (ap p same ∙ h) refl
      | false ↦ λ i. elim (p e.1) as (λ c. c || list_any p (map (λ e. e.1) es) ≡ true) [ true ↦ refl | false ↦ found R q es p x i h ]
    ] is

-- an owner holds a lock
pub owner_holds : (s : Table) (n : List ℕ) (t : ℕ) → owner_of s n ≡ Some t → holds s t ≡ true
owner_holds s n t h = by (lock_of s n) refl h
  where
    by : (o : Option Lock) → lock_of s n ≡ o → option_map (λ (lock : Lock). lock.owner) o ≡ Some t → holds s t ≡ true
    by None is e = cc
    by (Some lock) is e =
        let owner : lock.owner ≡ t = cc in
        found (slice_cmp nat_cmp) n (entries s.locks) (λ (lock : Lock). lock.owner == t) lock (sym (get-entries s.locks n) ∙ is) (eq-eqb lock.owner t owner)
