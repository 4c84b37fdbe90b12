-- What an allowed event tells of the state and of the thread.
use Rattle.std.proofs.Common.{◌≡◌, ℕ, zero, suc, ◌<◌, arith, Bool, true, false, cond, ◌&&◌, List, Option, Some, None, refl, sym, ap, subst, ◌∙◌, eqb, ltb}
use Rattle.std.specs.Prelude.{is_none, IsTrue, slice_get, not, count_by}
use Rattle.std.specs.Option.{option_map}
use Rattle.std.specs.FinMap.{get}
use Rattle.std.proofs.lemmas.Bool.{and_parts, false≢true, eqb-true, ltb-true, eqb-false}
use Rattle.machine_events.specs.declared.event.Event.{Event}
use Rattle.module_lock.specs.declared.locks.Lock.{Lock}
use Rattle.module_lock.specs.Table.{lock_of, can_wake}
use Rattle.module_table.specs.declared.module.Object.{Object}
use Rattle.machine_spec.specs.declared.state.State.{State}
use Rattle.machine_spec.specs.Allowed.{allowed, is_wake, fits, has_ended, all_ended, is_due, is_due_from, has_leave, has_spare, spare_of, counts_for, has_name, is_open_of}
use Rattle.machine_laws.specs.Bones.{bones, module_bone, body_bone, is_named, counts_in, opens, held_by, held}
use Rattle.machine_laws.specs.Sound.{IsRunning}
use Rattle.machine_laws.proofs.Same.{get_map}
use Rattle.machine_laws.proofs.Counts.{bit, same_sum, sum_map}

none_of : {X : Type 0} (o : Option X) → is_none o ≡ true → o ≡ None
none_of None h = refl
none_of (Some x) h = absurd (false≢true h)

untrue : (b : Bool) → not b ≡ true → b ≡ false
untrue true h = absurd (false≢true h)
untrue false h = refl

all_before : (s : State) (n : ℕ) → all_ended s n ≡ true → (u : ℕ) → u < n → has_ended s u ≡ true
all_before s zero h u less = absurd (omega arith)
all_before s (suc n) h u less =
    let parts = and_parts (has_ended s n) (all_ended s n) h in
    elim (eqb u n) as (λ c. eqb u n ≡ c → has_ended s u ≡ true) [
      | true ↦ λ p. ap (has_ended s) (eqb-true u n p) ∙ parts.0
      | false ↦ λ p. all_before s n parts.1 u (let other = eqb-false u n p in omega arith)
    ] refl

module _ (s : State) (t : ℕ) (e : Event) (h : IsTrue (allowed s t e)) where
  front : is_due s t && not (has_ended s t) ≡ true
  front = (and_parts (is_due s t && not (has_ended s t)) (has_leave s t e) h).0

  leave : has_leave s t e ≡ true
  leave = (and_parts (is_due s t && not (has_ended s t)) (has_leave s t e) h).1

  -- the thread has not ended, and its round has begun
  pub runs : IsRunning (bones s) t
  runs =
      let parts = and_parts (is_due s t) (not (has_ended s t)) front in
      by (slice_get s.rounds t) refl parts.0 (untrue (has_ended s t) parts.1)
    where
      by : (o : Option ℕ) → slice_get s.rounds t ≡ o → is_due_from s o ≡ true → has_ended s t ≡ false → IsRunning (bones s) t
      by None is due going = absurd (false≢true due)
      by (Some first) is due going = record { first = first; round = is; going = going; earlier = all_before s first due }

  -- a thread that makes another event than Wake waits for nothing, and what the event asks holds
  pub idle : is_wake e ≡ false → get s.locks.waits t ≡ None
  idle other =
      let both = subst (λ b. cond b (can_wake s.locks t) (is_none (get s.locks.waits t) && fits s t e) ≡ true) other leave in
      none_of _ (and_parts _ _ both).0

  pub fitting : is_wake e ≡ false → fits s t e ≡ true
  fitting other =
      let both = subst (λ b. cond b (can_wake s.locks t) (is_none (get s.locks.waits t) && fits s t e) ≡ true) other leave in
      (and_parts (is_none (get s.locks.waits t)) (fits s t e) both).1

spare_held : (t k : ℕ) (o : Option Lock) → spare_of t k o ≡ true → k < held_by t o
spare_held t k None h = absurd (false≢true h)
spare_held t k (Some lock) h =
    let parts = and_parts (eqb lock.owner t) (ltb k lock.count) h in
    let less = ltb-true k lock.count parts.1 in
    rw parts.0 less

same_named : (o : Option Object) (n : List ℕ) → is_named (option_map module_bone o) n ≡ has_name o n
same_named None n = refl
same_named (Some o) n = refl

-- the bones count the same loads
pub opens_of : (s : State) (t : ℕ) (n : List ℕ) → opens (bones s) t n ≡ count_by (counts_for s.table t n) s.table.loads
opens_of s t n =
    sum_map (λ x. bit (counts_in (bones s) t n x)) body_bone s.table.loads
    ∙ same_sum (λ l. bit (counts_in (bones s) t n (body_bone l))) (λ l. bit (counts_for s.table t n l)) s.table.loads
    (λ i l is. ap (λ c. bit (is_open_of t l && c)) (ap (λ o. is_named o n) (get_map module_bone s.table.objects l.mid) ∙ same_named (slice_get s.table.objects l.mid) n))

-- a spare take is one more than the open loads
pub spare : (s : State) (t : ℕ) (n : List ℕ) → has_spare s t n ≡ true → opens (bones s) t n < held s.locks t n
spare s t n h = subst (λ k. k < held s.locks t n) (sym (opens_of s t n)) (spare_held t (count_by (counts_for s.table t n) s.table.loads) (lock_of s.locks n) h)
