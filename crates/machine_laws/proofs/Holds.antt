-- How often a thread owns a lock, after one was taken or given back.
use Rattle.std.proofs.Common.{◌≡◌, ◌⊎◌, ℕ, ◌+◌, ◌-◌, ◌≤◌, arith, Bool, true, false, cond, Ordering, Less, Equal, Greater, List, Option, Some, None, refl, sym, ap, subst, ◌∙◌, leb, eqb, inl, inr}
use Rattle.std.specs.Ordering.{nat_cmp, eq_by_cmp, is_eq}
use Rattle.std.specs.Cmp.{eq_by_cmp_equiv}
use Rattle.std.specs.Cmp.Lexicographic.{slice_cmp, nat_list_cmp_total}
use Rattle.std.specs.FinMap.{get, insert, remove, get-insert, get-remove, nat_cmp-IsAntisymmetric, slice_cmp-IsAntisymmetric}
use Rattle.std.proofs.lemmas.Bool.{false≢true, eqb-true, eqb-false, ne_eqb, leb-true, eq-eqb}
use Rattle.module_lock.specs.declared.locks.Lock.{Lock}
use Rattle.module_lock.specs.Table.{Table, lock_of, got, given, lowered, taken_count, is_free, is_free_for}
use Rattle.machine_laws.specs.Bones.{held_by, held}

is_equal : (o : Ordering) → is_eq o ≡ true → o ≡ Equal
is_equal Less h = absurd (false≢true h)
is_equal Equal h = refl
is_equal Greater h = absurd (false≢true h)

abbrev pub same_text : List ℕ → List ℕ → Bool
same_text = eq_by_cmp (slice_cmp nat_cmp)

pub same_name : (m n : List ℕ) → same_text m n ≡ true → m ≡ n
same_name m n h = slice_cmp-IsAntisymmetric nat_cmp-IsAntisymmetric m n (is_equal _ h)

pub same_self : (n : List ℕ) → same_text n n ≡ true
same_self n = (eq_by_cmp_equiv nat_list_cmp_total).refl n

-- a fact on a thread and a name, by whether they are these
pub at_or_elsewhere : (P : ℕ → List ℕ → Type 0) (t : ℕ) (n : List ℕ) → P t n → ((u : ℕ) (m : List ℕ) → (same_text m n ≡ false) ⊎ (eqb u t ≡ false) → P u m) → (u : ℕ) (m : List ℕ) → P u m
at_or_elsewhere P t n here there u m =
    elim (same_text m n) as (λ b. same_text m n ≡ b → P u m) [
      | true ↦ λ p. elim (eqb u t) as (λ b. eqb u t ≡ b → P u m) [
        | true ↦ λ q. subst (λ v. P v m) (sym (eqb-true u t q)) (subst (λ z. P t z) (sym (same_name m n p)) here)
        | false ↦ λ q. there u m (inr q)
      ] refl
      | false ↦ λ p. there u m (inl p)
    ] refl

module _ (table : Table) (t : ℕ) (n : List ℕ) where
  taken : Lock
  taken = record { owner = t; count = taken_count (lock_of table n) + 1 }

  free_le : (u : ℕ) (o : Option Lock) → is_free_for t o ≡ true → held_by u o ≤ held_by u (Some (record { owner = t; count = taken_count o + 1 }))
  free_le u None h = omega arith
  free_le u (Some lock) h =
      let same : lock.owner ≡ t = eqb-true lock.owner t h in
      subst (λ z. held_by u (Some lock) ≤ cond (eqb z u) (lock.count + 1) 0) same
      (elim (eqb lock.owner u) as (λ b. cond b lock.count 0 ≤ cond b (lock.count + 1) 0) [ true ↦ omega arith | false ↦ omega arith ])

  -- taking a lock that is free lowers nobody's count
  pub held_got : is_free table t n ≡ true → (u : ℕ) (m : List ℕ) → held table u m ≤ held (got table t n) u m
  held_got free u m =
      let l : Lock = record { owner = t; count = taken_count (lock_of table n) + 1 } in
      rw (get-insert nat_list_cmp_total table.locks n l m)
      (elim (same_text m n) as (λ b. same_text m n ≡ b → held_by u (get table.locks m) ≤ held_by u (cond b (Some l) (get table.locks m))) [
        | true ↦ λ p. subst (λ z. held_by u (get table.locks z) ≤ held_by u (Some l)) (sym (same_name m n p)) (free_le u (lock_of table n) free)
        | false ↦ λ _. omega arith
      ] refl)

  free_more : (o : Option Lock) → is_free_for t o ≡ true → held_by t (Some (record { owner = t; count = taken_count o + 1 })) ≡ held_by t o + 1
  free_more None h = let own = eq-eqb t t refl in rw own refl
  free_more (Some lock) h = let own = eq-eqb t t refl in rw (own, h) refl

  -- and raises the taker's by one
  pub held_more : is_free table t n ≡ true → held (got table t n) t n ≡ held table t n + 1
  held_more free =
      let l : Lock = record { owner = t; count = taken_count (lock_of table n) + 1 } in
      ap (held_by t) (get-insert nat_list_cmp_total table.locks n l n ∙ ap (λ b. cond b (Some l) (get table.locks n)) (same_self n))
      ∙ free_more (lock_of table n) free

  -- giving a lock back lowers the giver's count by one at most
  lowered_le : (o : Option Lock) → get table.locks n ≡ o → held_by t o ≤ held_by t (get (lowered table.locks t n o) n) + 1
  lowered_le None is = omega arith
  lowered_le (Some lock) is =
      let less : Lock = record { owner = lock.owner; count = lock.count - 1 } in
      elim (eqb lock.owner t) as (λ d. eqb lock.owner t ≡ d → cond d lock.count 0 ≤ held_by t (get (cond d (cond (leb lock.count 1) (remove table.locks n) (insert table.locks n less)) table.locks) n) + 1) [
        | true ↦ λ q. elim (leb lock.count 1) as (λ b. leb lock.count 1 ≡ b → lock.count ≤ held_by t (get (cond b (remove table.locks n) (insert table.locks n less)) n) + 1) [
          | true ↦ λ p. rw (get-remove nat_list_cmp_total table.locks n n, same_self n) (omega (arith, leb-true lock.count 1 p))
          | false ↦ λ p. rw (get-insert nat_list_cmp_total table.locks n less n, same_self n, q) (omega arith)
        ] refl
        | false ↦ λ q. omega arith
      ] refl

  pub held_less : held table t n ≤ held (given table t n) t n + 1
  held_less = lowered_le (lock_of table n) refl

  lowered_other : (m : List ℕ) (o : Option Lock) → same_text m n ≡ false → get (lowered table.locks t n o) m ≡ get table.locks m
  lowered_other m None other = refl
  lowered_other m (Some lock) other =
      let less : Lock = record { owner = lock.owner; count = lock.count - 1 } in
      elim (eqb lock.owner t) as (λ d. get (cond d (cond (leb lock.count 1) (remove table.locks n) (insert table.locks n less)) table.locks) m ≡ get table.locks m) [
        | true ↦ elim (leb lock.count 1) as (λ b. get (cond b (remove table.locks n) (insert table.locks n less)) m ≡ get table.locks m) [
          | true ↦ get-remove nat_list_cmp_total table.locks n m ∙ ap (λ b. cond b None (get table.locks m)) other
          | false ↦ get-insert nat_list_cmp_total table.locks n less m ∙ ap (λ b. cond b (Some less) (get table.locks m)) other
        ]
        | false ↦ refl
      ]

  lowered_stranger : (u : ℕ) (o : Option Lock) → get table.locks n ≡ o → eqb u t ≡ false → held_by u (get (lowered table.locks t n o) n) ≡ held_by u o
  lowered_stranger u None is other = ap (held_by u) is
  lowered_stranger u (Some lock) is other =
      let less : Lock = record { owner = lock.owner; count = lock.count - 1 } in
      elim (eqb lock.owner t) as (λ d. eqb lock.owner t ≡ d → held_by u (get (cond d (cond (leb lock.count 1) (remove table.locks n) (insert table.locks n less)) table.locks) n) ≡ held_by u (Some lock)) [
        | true ↦ λ q.
            let stranger : eqb lock.owner u ≡ false = ap (λ z. eqb z u) (eqb-true lock.owner t q) ∙ ne_eqb t u (λ e. eqb-false u t other (sym e)) in
            elim (leb lock.count 1) as (λ b. held_by u (get (cond b (remove table.locks n) (insert table.locks n less)) n) ≡ held_by u (Some lock)) [
              | true ↦ rw (get-remove nat_list_cmp_total table.locks n n, same_self n, stranger) refl
              | false ↦ rw (get-insert nat_list_cmp_total table.locks n less n, same_self n, stranger) refl
            ]
        | false ↦ λ q. ap (held_by u) is
      ] refl

  -- and nobody else's
  pub held_elsewhere : (u : ℕ) (m : List ℕ) → (same_text m n ≡ false) ⊎ (eqb u t ≡ false) → held (given table t n) u m ≡ held table u m
  held_elsewhere u m (inl other) = ap (held_by u) (lowered_other m (lock_of table n) other)
  held_elsewhere u m (inr other) =
      elim (same_text m n) as (λ b. same_text m n ≡ b → held (given table t n) u m ≡ held table u m) [
        | true ↦ λ p. subst (λ z. held (given table t n) u z ≡ held table u z) (sym (same_name m n p)) (lowered_stranger u (lock_of table n) refl other)
        | false ↦ λ p. ap (held_by u) (lowered_other m (lock_of table n) p)
      ] refl
