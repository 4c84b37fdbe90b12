-- What each call does to the table keeps it without a cycle.
use Rattle.std.proofs.Common.{◌≡◌, ◌⊎◌, ℕ, zero, suc, ◌+◌, ◌-◌, true, false, cond, List, Option, Some, None, Ordering, Less, Equal, Greater, refl, sym, ap, subst, ◌∙◌, inl, inr, arith, leb, eqb}
use Rattle.std.specs.Option.{option_map}
use Rattle.std.specs.Prelude.{option_and_then}
use Rattle.std.specs.Ordering.{nat_cmp, eq_by_cmp, is_eq}
use Rattle.std.specs.Cmp.{nat_cmp_total}
use Rattle.std.specs.Cmp.Lexicographic.{slice_cmp, nat_list_cmp_total}
use Rattle.std.specs.FinMap.{FinMap, empty, get-empty, get, insert, remove, get-insert, get-remove, nat_cmp-IsAntisymmetric, slice_cmp-IsAntisymmetric}
use Rattle.std.proofs.lemmas.Bool.{false≢true}
use Rattle.module_lock.specs.declared.locks.Lock.{Lock}
use Rattle.std.proofs.lemmas.Bool.Decides.{nat_tests}
use Rattle.module_lock.specs.Table.{Table, lock_of, owner_of, closes, got, waiting, woken, given, lowered, taken_count}
use Rattle.module_lock.specs.Cycles.{Walk, WaitsFor, WouldWait, IsAcyclic}
use Rattle.module_lock.proofs.Follow.{closes-no}

-- one walk after another
append : (P : ℕ → ℕ → Type 0) (u v w a b : ℕ) → Walk P u v (suc a) → Walk P v w b → (c : ℕ) × Walk P u w (suc c)
append P u v w zero b x y = (b, (x.0, x.1, subst (λ z. Walk P z w b) (sym x.2) y))
append P u v w (suc a) b x y = let r = append P x.0 v w a b x.2 y in (suc r.0, (x.0, x.1, r.1))

module _ (P Q : ℕ → ℕ → Type 0) where
  narrow : ((x y : ℕ) → Q x y → P x y) → (u v k : ℕ) → Walk Q u v k → Walk P u v k
  narrow step u v zero w = w
  narrow step u v (suc k) w = (w.0, step u w.0 w.1, narrow step w.0 v k w.2)

  -- pairs that go away close no cycle
  fewer : ((x y : ℕ) → Q x y → P x y) → ((u k : ℕ) → Walk P u u (suc k) → ⊥) → (u k : ℕ) → Walk Q u u (suc k) → ⊥
  fewer step acyclic u k w = acyclic u k (narrow step u u (suc k) w)

  -- nor do pairs that lead to who waits for nobody
  module _ (t : ℕ) (stops : (y : ℕ) → Q t y → ⊥) (step : (x y : ℕ) → Q x y → P x y ⊎ (y ≡ t)) where
    into : (u v k : ℕ) → Walk Q u v (suc k) → Walk P u v (suc k) ⊎ (v ≡ t)
    into u v zero w = elim (step u w.0 w.1) [ inl old ↦ inl (w.0, old, w.2) | inr new ↦ inr (sym w.2 ∙ new) ]
    into u v (suc k) w = elim (step u w.0 w.1) [
      | inl old ↦ elim (into w.0 v k w.2) [ inl rest ↦ inl (w.0, old, rest) | inr end ↦ inr end ]
      | inr new ↦ absurd (stops w.2.0 (subst (λ z. Q z w.2.0) new w.2.1))
    ]

    ends : ((u k : ℕ) → Walk P u u (suc k) → ⊥) → (u k : ℕ) → Walk Q u u (suc k) → ⊥
    ends acyclic u k w = elim (into u u k w) [ inl old ↦ acyclic u k old | inr same ↦ stops w.0 (subst (λ z. Q z w.0) same w.1) ]

-- a walk with the new pair in it comes through t
through : (s : Table) (t : ℕ) (n : List ℕ) (u v k : ℕ) → Walk (WouldWait s t n) u v k → Walk (WaitsFor s) u v k ⊎ ((a b : ℕ) × Walk (WouldWait s t n) u t a × Walk (WouldWait s t n) t v (suc b))
through s t n u v zero w = inl w
through s t n u v (suc k) w = elim w.1 [
  | inr new ↦ inr (0, k, new.0, (w.0, inr (refl, new.1), w.2))
  | inl old ↦ elim (through s t n w.0 v k w.2) [
    | inl rest ↦ inl (w.0, old, rest)
    | inr more ↦ inr (suc more.0, more.1, (w.0, inl old, more.2), more.3)
  ]
]

same_number : (x t : ℕ) → eq_by_cmp nat_cmp x t ≡ true → x ≡ t
same_number x t h = grind (arith, nat_tests)

is_equal : (o : Ordering) → is_eq o ≡ true → o ≡ Equal
is_equal Less h = absurd (false≢true h)
is_equal Equal h = refl
is_equal Greater h = absurd (false≢true h)

pub same_name : (m n : List ℕ) → eq_by_cmp (slice_cmp nat_cmp) m n ≡ true → m ≡ n
same_name m n h = slice_cmp-IsAntisymmetric nat_cmp-IsAntisymmetric m n (is_equal _ h)

abbrev owner : Lock → ℕ
owner lock = lock.owner

abbrev name_cmp : List ℕ → List ℕ → Ordering
name_cmp = slice_cmp nat_cmp

module _ (locks : FinMap (slice_cmp nat_cmp) Lock) (n m : List ℕ) (y : ℕ) where
  -- who owns a lock after one was taken
  pub inserted : (l : Lock) → option_map owner (get (insert locks n l) m) ≡ Some y → ((m ≡ n) × (y ≡ l.owner)) ⊎ (option_map owner (get locks m) ≡ Some y)
  inserted l h =
      elim (eq_by_cmp name_cmp m n) as (λ b. eq_by_cmp name_cmp m n ≡ b → option_map owner (cond b (Some l) (get locks m)) ≡ Some y → ((m ≡ n) × (y ≡ l.owner)) ⊎ (option_map owner (get locks m) ≡ Some y)) [
        | true ↦ λ p e. inl (same_name m n p, cc)
        | false ↦ λ _ e. inr e
      ] refl (sym (ap (option_map owner) (get-insert nat_list_cmp_total locks n l m)) ∙ h)

  removed : option_map owner (get (remove locks n) m) ≡ Some y → option_map owner (get locks m) ≡ Some y
  removed h =
      elim (eq_by_cmp name_cmp m n) as (λ b. option_map owner (cond b None (get locks m)) ≡ Some y → option_map owner (get locks m) ≡ Some y) [
        | true ↦ λ e. cc
        | false ↦ λ e. e
      ] (sym (ap (option_map owner) (get-remove nat_list_cmp_total locks n m)) ∙ h)

  pub lowered_owner : (t : ℕ) (o : Option Lock) → get locks n ≡ o → option_map owner (get (lowered locks t n o) m) ≡ Some y → option_map owner (get locks m) ≡ Some y
  lowered_owner t None is h = h
  lowered_owner t (Some l) is h =
      elim (eqb l.owner t) as (λ d. option_map owner (get (cond d (cond (leb l.count 1) (remove locks n) (insert locks n (record { owner = l.owner; count = l.count - 1 }))) locks) m) ≡ Some y → option_map owner (get locks m) ≡ Some y) [
        | true ↦ λ k. elim (leb l.count 1) as (λ b. option_map owner (get (cond b (remove locks n) (insert locks n (record { owner = l.owner; count = l.count - 1 }))) m) ≡ Some y → option_map owner (get locks m) ≡ Some y) [
          | true ↦ removed
          | false ↦ λ e. elim (inserted (record { owner = l.owner; count = l.count - 1 }) e) [
            | inl p ↦ ap (λ z. option_map owner (get locks z)) p.0 ∙ ap (option_map owner) is ∙ ap (λ z. Some z) (sym p.1)
            | inr old ↦ old
          ]
        ] k
        | false ↦ λ k. k
      ] h

module _ (s : Table) (t : ℕ) where
  waiting_step : (n : List ℕ) (x y : ℕ) → WaitsFor (waiting s t n) x y → WouldWait s t n x y
  waiting_step n x y h =
      elim (eq_by_cmp nat_cmp x t) as (λ b. eq_by_cmp nat_cmp x t ≡ b → option_and_then (owner_of s) (cond b (Some n) (get s.waits x)) ≡ Some y → WouldWait s t n x y) [
        | true ↦ λ p e. inr (same_number x t p, e)
        | false ↦ λ _ e. inl e
      ] refl (sym (ap (option_and_then (owner_of s)) (get-insert nat_cmp_total s.waits t n x)) ∙ h)

  woken_step : (x y : ℕ) → WaitsFor (woken s t) x y → WaitsFor s x y
  woken_step x y h =
      elim (eq_by_cmp nat_cmp x t) as (λ b. option_and_then (owner_of s) (cond b None (get s.waits x)) ≡ Some y → WaitsFor s x y) [
        | true ↦ λ e. cc
        | false ↦ λ e. e
      ] (sym (ap (option_and_then (owner_of s)) (get-remove nat_cmp_total s.waits t x)) ∙ h)

  got_step : (n : List ℕ) (x y : ℕ) → WaitsFor (got s t n) x y → WaitsFor s x y ⊎ (y ≡ t)
  got_step n x y h =
      elim (get s.waits x) as (λ o. option_and_then (owner_of (got s t n)) o ≡ Some y → (option_and_then (owner_of s) o ≡ Some y) ⊎ (y ≡ t)) [
        | None ↦ λ e. inl e
        | Some m ↦ λ e. elim (inserted s.locks n m y (record { owner = t; count = taken_count (lock_of s n) + 1 }) e) [ inl p ↦ inr p.1 | inr old ↦ inl old ]
      ] h

  given_step : (n : List ℕ) (x y : ℕ) → WaitsFor (given s t n) x y → WaitsFor s x y
  given_step n x y h =
      elim (get s.waits x) as (λ o. option_and_then (owner_of (given s t n)) o ≡ Some y → option_and_then (owner_of s) o ≡ Some y) [
        | None ↦ λ e. e
        | Some m ↦ λ e. lowered_owner s.locks n m y t (lock_of s n) refl e
      ] h

-- the four changes keep the table without a cycle
module _ (s : Table) (acyclic : IsAcyclic s) (t : ℕ) where
  pub acyclic-waiting : (n : List ℕ) → closes s t n ≡ false → IsAcyclic (waiting s t n)
  acyclic-waiting n free = record {
    open_ended = λ u k w.
        let v : Walk (WouldWait s t n) u u (suc k) = narrow (WouldWait s t n) (WaitsFor (waiting s t n)) (waiting_step s t n) u u (suc k) w in
        elim (through s t n u u (suc k) v) [
          | inl old ↦ acyclic.open_ended u k old
          | inr p ↦ false≢true (sym free ∙ closes-no s acyclic t n (append (WouldWait s t n) t u t p.1 p.0 p.3 p.2))
        ];
  }

  pub acyclic-woken : IsAcyclic (woken s t)
  acyclic-woken = record { open_ended = fewer (WaitsFor s) (WaitsFor (woken s t)) (woken_step s t) acyclic.open_ended }

  pub acyclic-given : (n : List ℕ) → IsAcyclic (given s t n)
  acyclic-given n = record { open_ended = fewer (WaitsFor s) (WaitsFor (given s t n)) (given_step s t n) acyclic.open_ended }

  -- whoever takes a free lock waits for nothing
  pub acyclic-got : (n : List ℕ) → get s.waits t ≡ None → IsAcyclic (got s t n)
  acyclic-got n none = record { open_ended = ends (WaitsFor s) (WaitsFor (got s t n)) t (λ y h. nobody_new y h) (got_step s t n) acyclic.open_ended }
    where
      nobody_new : (y : ℕ) → WaitsFor (got s t n) t y → ⊥
      nobody_new y h = let e = sym (ap (option_and_then (owner_of (got s t n))) none) ∙ h in cc

pub acyclic-empty : IsAcyclic (record { locks = empty; waits = empty })
acyclic-empty = record { open_ended = λ u k w. let e = sym (ap (option_and_then (owner_of (record { locks = empty; waits = empty }))) (get-empty nat_cmp u)) ∙ w.1 in cc }
