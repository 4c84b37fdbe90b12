-- Whether a thread has a take to spare, by the counts.
use Rattle.std.proofs.Common.{◌≡◌, ℕ, true, false, ◌&&◌, List, Some, None, refl, sym, ap, ◌∙◌, eqb, ltb}
use Rattle.std.specs.Prelude.{count_by}
use Rattle.std.specs.Option.{option_map}
use Rattle.std.specs.Ordering.{nat_cmp}
use Rattle.std.specs.Cmp.Lexicographic.{slice_cmp}
use Rattle.std.specs.FinMap.{FinMap}
use Rattle.std.proofs.lemmas.Bool.{eqb-true, eq-eqb}
use Rattle.module_lock.specs.declared.locks.Lock.{Lock}
use Rattle.module_lock.specs.Table.{lock_of, owner_of}
use Rattle.machine_spec.specs.declared.state.State.{State}
use Rattle.machine_spec.specs.Allowed.{has_spare, spare_of, counts_for}
use Rattle.import_machine.specs.SpareCounts.{count_of, AreTold}

pub no_spare : (s : State) (t : ℕ) (n : List ℕ) → lock_of s.locks n ≡ None → has_spare s t n ≡ false
no_spare s t n is = ap (spare_of t (count_by (counts_for s.table t n) s.table.loads)) is

pub spare_is : (s : State) (counts : FinMap (slice_cmp nat_cmp) ℕ) → AreTold s counts → (t : ℕ) (n : List ℕ) (lock : Lock) → lock_of s.locks n ≡ Some lock
    → has_spare s t n ≡ (eqb lock.owner t && ltb (count_of counts n) lock.count)
spare_is s counts told t n lock is =
    let opens = count_by (counts_for s.table t n) s.table.loads in
    ap (spare_of t opens) is
    ∙ elim (eqb lock.owner t) as (λ b. eqb lock.owner t ≡ b → (b && ltb opens lock.count) ≡ (b && ltb (count_of counts n) lock.count)) [
      | true ↦ λ p.
          let owner : owner_of s.locks n ≡ Some t = ap (option_map (λ (l : Lock). l.owner)) is ∙ ap (λ z. Some z) (eqb-true lock.owner t p) in
          ap (λ k. ltb k lock.count) (sym (told.owned t n owner))
      | false ↦ λ p. refl
    ] refl

pub spare_owned : (s : State) (counts : FinMap (slice_cmp nat_cmp) ℕ) → AreTold s counts → (t : ℕ) (n : List ℕ) (lock : Lock) → lock_of s.locks n ≡ Some lock → lock.owner ≡ t
    → has_spare s t n ≡ ltb (count_of counts n) lock.count
spare_owned s counts told t n lock is own =
    spare_is s counts told t n lock is ∙ ap (λ b. b && ltb (count_of counts n) lock.count) (eq-eqb lock.owner t own)
