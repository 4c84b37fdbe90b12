-- What becomes of the counts of locks where one is taken or given back.
use Rattle.std.proofs.Common.{◌≡◌, ℕ, suc, ◌+◌, ◌-◌, ◌<◌, ◌≤◌, arith, true, false, cond, List, Option, Some, None, refl, sym, ap, subst, ◌∙◌, leb, eqb}
use Rattle.std.specs.Cmp.Lexicographic.{nat_list_cmp_total}
use Rattle.std.specs.FinMap.{get, insert, remove, get-insert, get-remove}
use Rattle.std.proofs.lemmas.Bool.{leb-true}
use Rattle.module_lock.specs.declared.locks.Lock.{Lock}
use Rattle.module_lock.specs.Table.{Table, lock_of, got, given, lowered, taken_count}
use Rattle.machine_laws.specs.Bones.{held_by, held}
use Rattle.machine_laws.proofs.Same.{either}
use Rattle.machine_laws.proofs.Holds.{same_text, same_name, same_self}

abbrev pub count : Table → List ℕ → ℕ
count table n = taken_count (lock_of table n)

module _ (table : Table) (t : ℕ) (n : List ℕ) where
  lowered_other : (o : Option Lock) (m : List ℕ) → same_text m n ≡ false → get (lowered table.locks t n o) m ≡ get table.locks m
  lowered_other None m h = refl
  lowered_other (Some lock) m h =
      let less : Lock = record { owner = lock.owner; count = lock.count - 1 } in
      either (λ locks. get locks m ≡ get table.locks m) (eqb lock.owner t) (cond (leb lock.count 1) (remove table.locks n) (insert table.locks n less)) table.locks
      (either (λ locks. get locks m ≡ get table.locks m) (leb lock.count 1) (remove table.locks n) (insert table.locks n less)
      (get-remove nat_list_cmp_total table.locks n m ∙ ap (λ b. cond b None (get table.locks m)) h)
      (get-insert nat_list_cmp_total table.locks n less m ∙ ap (λ b. cond b (Some less) (get table.locks m)) h))
      refl

  -- a lock that is given back leaves the counts of all others
  pub given_other : (m : List ℕ) → same_text m n ≡ false → count (given table t n) m ≡ count table m
  given_other m h = ap taken_count (lowered_other (lock_of table n) m h)

  lowered_here : (o : Option Lock) → 0 < held_by t o → suc (taken_count (get (lowered table.locks t n o) n)) ≡ taken_count o
  lowered_here None h = absurd (omega arith)
  lowered_here (Some lock) h =
      let less : Lock = record { owner = lock.owner; count = lock.count - 1 } in
      elim (eqb lock.owner t) as (λ d. 0 < cond d lock.count 0 → suc (taken_count (get (cond d (cond (leb lock.count 1) (remove table.locks n) (insert table.locks n less)) table.locks) n)) ≡ lock.count) [
        | true ↦ λ some. elim (leb lock.count 1) as (λ b. leb lock.count 1 ≡ b → suc (taken_count (get (cond b (remove table.locks n) (insert table.locks n less)) n)) ≡ lock.count) [
          | true ↦ λ p. rw (get-remove nat_list_cmp_total table.locks n n, same_self n) (omega (arith, leb-true lock.count 1 p))
          | false ↦ λ p. rw (get-insert nat_list_cmp_total table.locks n less n, same_self n) (omega arith)
        ] refl
        | false ↦ λ none. absurd (omega arith)
      ] h

  -- and lowers its own by one, where t owns it
  pub given_here : 0 < held table t n → suc (count (given table t n) n) ≡ count table n
  given_here h = lowered_here (lock_of table n) h

  -- where a count has fallen, it is that of the lock that was given back
  pub given_falls : (m : List ℕ) → count (given table t n) m < count table m → n ≡ m
  given_falls m h =
      elim (same_text m n) as (λ b. same_text m n ≡ b → n ≡ m) [
        | true ↦ λ p. sym (same_name m n p)
        | false ↦ λ p. absurd (let same = given_other m p in omega arith)
      ] refl

  -- no count falls where a lock is taken
  pub got_rises : (m : List ℕ) → count table m ≤ count (got table t n) m
  got_rises m =
      let l : Lock = record { owner = t; count = taken_count (lock_of table n) + 1 } in
      rw (get-insert nat_list_cmp_total table.locks n l m)
      (elim (same_text m n) as (λ b. same_text m n ≡ b → taken_count (get table.locks m) ≤ taken_count (cond b (Some l) (get table.locks m))) [
        | true ↦ λ p. subst (λ z. taken_count (get table.locks z) ≤ taken_count (get table.locks n) + 1) (sym (same_name m n p)) (omega arith)
        | false ↦ λ _. omega arith
      ] refl)
