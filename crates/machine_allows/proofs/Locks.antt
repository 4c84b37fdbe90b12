-- How often a thread owns a lock, exactly, after one was taken or given back.
use Rattle.std.proofs.Common.{◌≡◌, ◌≢◌, ℕ, ◌+◌, ◌-◌, ◌<◌, arith, true, false, cond, List, Option, Some, None, refl, sym, ap, subst, ◌∙◌, leb, eqb, inl, inr}
use Rattle.std.specs.Prelude.{nat_eq}
use Rattle.std.specs.Cmp.Lexicographic.{pointwise, nat_list_cmp_total, nat_list_eq_equiv}
use Rattle.std.specs.FinMap.{get, insert, remove, get-insert, get-remove}
use Rattle.std.proofs.lemmas.Bool.{false≢true, eqb-true, ne_eqb, leb-true, leb-false}
use Rattle.std.proofs.lemmas.Slice.Eq.{bytes_eq-Decides}
use Rattle.module_lock.specs.declared.locks.Lock.{Lock}
use Rattle.module_lock.specs.Table.{Table, lock_of, got, given, lowered, taken_count, is_free, is_free_for}
use Rattle.machine_laws.specs.Bones.{held_by, held}
use Rattle.machine_laws.proofs.Counts.{bit}
use Rattle.machine_laws.proofs.Holds.{same_text, same_name, same_self, held_more, held_elsewhere}

pub named_same : (m n : List ℕ) → pointwise nat_eq m n ≡ true → m ≡ n
named_same m n h = (bytes_eq-Decides m n).0 h

pub apart : (m n : List ℕ) → pointwise nat_eq m n ≡ false → same_text m n ≡ false
apart m n h = elim (same_text m n) as (λ c. same_text m n ≡ c → c ≡ false) [
  | true ↦ λ p. absurd (false≢true (sym h ∙ ap (λ z. pointwise nat_eq m z) (sym (same_name m n p)) ∙ nat_list_eq_equiv.refl m))
  | false ↦ λ p. refl
] refl

module _ (table : Table) (t : ℕ) (n : List ℕ) where
  got_elsewhere : (u : ℕ) (m : List ℕ) → same_text m n ≡ false → held (got table t n) u m ≡ held table u m
  got_elsewhere u m h =
      let l : Lock = record { owner = t; count = taken_count (lock_of table n) + 1 } in
      ap (held_by u) (get-insert nat_list_cmp_total table.locks n l m ∙ ap (λ b. cond b (Some l) (get table.locks m)) h)

  pub got_own : is_free table t n ≡ true → (m : List ℕ) → held (got table t n) t m ≡ held table t m + bit (pointwise nat_eq m n)
  got_own free m =
      elim (pointwise nat_eq m n) as (λ b. pointwise nat_eq m n ≡ b → held (got table t n) t m ≡ held table t m + bit b) [
        | true ↦ λ p. subst (λ z. held (got table t n) t z ≡ held table t z + 1) (sym (named_same m n p)) (held_more table t n free)
        | false ↦ λ p. let e = got_elsewhere t m (apart m n p) in omega arith
      ] refl

  stranger : (u : ℕ) → u ≢ t → (o : Option Lock) → is_free_for t o ≡ true → held_by u o ≡ 0
  stranger u other None h = refl
  stranger u other (Some lock) h =
      let owner : lock.owner ≡ t = eqb-true lock.owner t h in
      ap (λ b. cond b lock.count 0) (ap (λ z. eqb z u) owner ∙ ne_eqb t u (λ e. other (sym e)))

  pub got_other : is_free table t n ≡ true → (u : ℕ) → u ≢ t → (m : List ℕ) → held (got table t n) u m ≡ held table u m
  got_other free u other m =
      elim (same_text m n) as (λ b. same_text m n ≡ b → held (got table t n) u m ≡ held table u m) [
        | true ↦ λ p.
            let l : Lock = record { owner = t; count = taken_count (lock_of table n) + 1 } in
            let new : held (got table t n) u m ≡ 0 =
            ap (held_by u) (get-insert nat_list_cmp_total table.locks n l m ∙ ap (λ b. cond b (Some l) (get table.locks m)) p)
            ∙ ap (λ b. cond b l.count 0) (ne_eqb t u (λ e. other (sym e))) in
            let old : held table u m ≡ 0 = ap (held table u) (same_name m n p) ∙ stranger u other (lock_of table n) free in
            new ∙ sym old
        | false ↦ λ p. got_elsewhere u m p
      ] refl

  lowered_is : (o : Option Lock) → get table.locks n ≡ o → 0 < held_by t o → held_by t (get (lowered table.locks t n o) n) + 1 ≡ held_by t o
  lowered_is None is some = absurd (omega arith)
  lowered_is (Some lock) is some =
      let less : Lock = record { owner = lock.owner; count = lock.count - 1 } in
      elim (eqb lock.owner t) as (λ d. eqb lock.owner t ≡ d → 0 < cond d lock.count 0 → held_by t (get (cond d (cond (leb lock.count 1) (remove table.locks n) (insert table.locks n less)) table.locks) n) + 1 ≡ cond d lock.count 0) [
        | true ↦ λ q some. elim (leb lock.count 1) as (λ b. leb lock.count 1 ≡ b → held_by t (get (cond b (remove table.locks n) (insert table.locks n less)) n) + 1 ≡ lock.count) [
          | true ↦ λ p. rw (get-remove nat_list_cmp_total table.locks n n, same_self n) (let few = leb-true lock.count 1 p in omega arith)
          | false ↦ λ p. rw (get-insert nat_list_cmp_total table.locks n less n, same_self n, q) (omega arith)
        ] refl
        | false ↦ λ q some. absurd (omega arith)
      ] refl some

  pub given_own : 0 < held table t n → (m : List ℕ) → held (given table t n) t m + bit (pointwise nat_eq m n) ≡ held table t m
  given_own some m =
      elim (pointwise nat_eq m n) as (λ b. pointwise nat_eq m n ≡ b → held (given table t n) t m + bit b ≡ held table t m) [
        | true ↦ λ p. subst (λ z. held (given table t n) t z + 1 ≡ held table t z) (sym (named_same m n p)) (lowered_is (lock_of table n) refl some)
        | false ↦ λ p. let e = held_elsewhere table t n t m (inl (apart m n p)) in omega arith
      ] refl

  pub given_other : (u : ℕ) → u ≢ t → (m : List ℕ) → held (given table t n) u m ≡ held table u m
  given_other u other m = held_elsewhere table t n u m (inr (ne_eqb u t other))

-- Each lock that is owned is owned at least once.

abbrev pub Counted : Table → Type 0
Counted table = (n : List ℕ) (lock : Lock) → get table.locks n ≡ Some lock → 0 < lock.count

module _ (table : Table) (counted : Counted table) (t : ℕ) (n : List ℕ) where
  pub counted_got : Counted (got table t n)
  counted_got m lock is =
      let l : Lock = record { owner = t; count = taken_count (lock_of table n) + 1 } in
      elim (same_text m n) as (λ b. cond b (Some l) (get table.locks m) ≡ Some lock → 0 < lock.count) [
        | true ↦ λ e. let same : l ≡ lock = cc in let count : taken_count (lock_of table n) + 1 ≡ lock.count = ap (λ (z : Lock). z.count) same in omega arith
        | false ↦ λ e. counted m lock e
      ] (sym (get-insert nat_list_cmp_total table.locks n l m) ∙ is)

  counted_lowered : (o : Option Lock) → get table.locks n ≡ o → (m : List ℕ) (lock : Lock) → get (lowered table.locks t n o) m ≡ Some lock → 0 < lock.count
  counted_lowered None at m lock is = counted m lock is
  counted_lowered (Some old) at m lock is =
      let less : Lock = record { owner = old.owner; count = old.count - 1 } in
      elim (eqb old.owner t) as (λ d. get (cond d (cond (leb old.count 1) (remove table.locks n) (insert table.locks n less)) table.locks) m ≡ Some lock → 0 < lock.count) [
        | true ↦ elim (leb old.count 1) as (λ b. leb old.count 1 ≡ b → get (cond b (remove table.locks n) (insert table.locks n less)) m ≡ Some lock → 0 < lock.count) [
          | true ↦ λ p h.
              elim (same_text m n) as (λ c. cond c None (get table.locks m) ≡ Some lock → 0 < lock.count) [
                | true ↦ λ e. cc
                | false ↦ λ e. counted m lock e
              ] (sym (get-remove nat_list_cmp_total table.locks n m) ∙ h)
          | false ↦ λ p h.
              let more = leb-false old.count 1 p in
              elim (same_text m n) as (λ c. cond c (Some less) (get table.locks m) ≡ Some lock → 0 < lock.count) [
                | true ↦ λ e. let same : less ≡ lock = cc in let count : old.count - 1 ≡ lock.count = ap (λ (z : Lock). z.count) same in omega arith
                | false ↦ λ e. counted m lock e
              ] (sym (get-insert nat_list_cmp_total table.locks n less m) ∙ h)
        ] refl
        | false ↦ λ h. counted m lock h
      ] is

  pub counted_given : Counted (given table t n)
  counted_given = counted_lowered (lock_of table n) refl
