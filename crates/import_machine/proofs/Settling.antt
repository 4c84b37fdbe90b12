-- The counts after a step are those of the state after it.
use Rattle.std.proofs.Common.{◌≡◌, ℕ, ◌+◌, ◌-◌, ◌≤◌, arith, Bool, true, false, cond, List, Option, Some, None, refl, sym, ap, ◌∙◌, leb}
use Rattle.std.specs.Prelude.{IsTrue, nat_eq}
use Rattle.std.specs.Ordering.{nat_cmp}
use Rattle.std.specs.Cmp.Lexicographic.{slice_cmp, pointwise, nat_list_cmp_total}
use Rattle.std.specs.FinMap.{FinMap, get, insert, remove, get-insert, get-remove}
use Rattle.std.proofs.lemmas.Bool.{false≢true, leb-true}
use Rattle.std.proofs.lemmas.Slice.Eq.{bytes_eq-Decides}
use Rattle.machine_events.specs.declared.event.Event.{Event}
use Rattle.machine_events.specs.declared.event.Reply.{Reply}
use Rattle.machine_spec.specs.declared.state.State.{State}
use Rattle.machine_spec.specs.Step.{step}
use Rattle.machine_spec.specs.Allowed.{allowed}
use Rattle.machine_laws.specs.Bones.{bones}
use Rattle.machine_laws.specs.Sound.{IsSound}
use Rattle.machine_laws.proofs.Counts.{bit}
use Rattle.machine_laws.proofs.Holds.{same_text, same_name, same_self}
use Rattle.import_machine.specs.SpareCounts.{count_at, count_of}
use Rattle.import_machine.specs.Counts.{total, AreCounted, begins, ends, has_begun, raised, lowered, raised_at, lowered_at, settled}
use Rattle.import_machine.proofs.Tally.{bit_of}
use Rattle.import_machine.proofs.Events.{moves}

-- the two tests of names agree
one_test : (m n : List ℕ) → same_text n m ≡ pointwise nat_eq m n
one_test m n =
    elim (same_text n m) as (λ c. same_text n m ≡ c → c ≡ pointwise nat_eq m n) [
      | true ↦ λ p. sym ((bytes_eq-Decides m n).1 (sym (same_name n m p)))
      | false ↦ λ p. elim (pointwise nat_eq m n) as (λ d. pointwise nat_eq m n ≡ d → false ≡ d) [
        | true ↦ λ q. absurd (false≢true (sym p ∙ ap (λ z. same_text n z) ((bytes_eq-Decides m n).0 q) ∙ same_self n))
        | false ↦ λ q. refl
      ] refl
    ] refl

module _ (counts : FinMap (slice_cmp nat_cmp) ℕ) (m n : List ℕ) where
  inserted : (k : ℕ) → count_of (insert counts m k) n ≡ cond (pointwise nat_eq m n) k (count_of counts n)
  inserted k =
      ap count_at (get-insert nat_list_cmp_total counts m k n)
      ∙ ap (λ c. count_at (cond c (Some k) (get counts n))) (one_test m n)
      ∙ elim (pointwise nat_eq m n) as (λ c. count_at (cond c (Some k) (get counts n)) ≡ cond c k (count_of counts n)) [ true ↦ refl | false ↦ refl ]

  removed : count_of (remove counts m) n ≡ cond (pointwise nat_eq m n) 0 (count_of counts n)
  removed =
      ap count_at (get-remove nat_list_cmp_total counts m n)
      ∙ ap (λ c. count_at (cond c None (get counts n))) (one_test m n)
      ∙ elim (pointwise nat_eq m n) as (λ c. count_at (cond c None (get counts n)) ≡ cond c 0 (count_of counts n)) [ true ↦ refl | false ↦ refl ]

  here : pointwise nat_eq m n ≡ true → count_of counts m ≡ count_of counts n
  here p = ap (count_of counts) ((bytes_eq-Decides m n).0 p)

  more : count_of (raised counts m) n ≡ count_of counts n + bit (pointwise nat_eq m n)
  more = inserted (count_of counts m + 1) ∙
      elim (pointwise nat_eq m n) as (λ c. pointwise nat_eq m n ≡ c → cond c (count_of counts m + 1) (count_of counts n) ≡ count_of counts n + bit c) [
        | true ↦ λ p. let e = here p in omega arith
        | false ↦ λ p. omega arith
      ] refl

  less : count_of (lowered counts m) n ≡ count_of counts n - bit (pointwise nat_eq m n)
  less =
      elim (leb (count_of counts m) 1) as (λ d. leb (count_of counts m) 1 ≡ d → count_of (cond d (remove counts m) (insert counts m (count_of counts m - 1))) n ≡ count_of counts n - bit (pointwise nat_eq m n)) [
        | true ↦ λ q. removed ∙ elim (pointwise nat_eq m n) as (λ c. pointwise nat_eq m n ≡ c → cond c 0 (count_of counts n) ≡ count_of counts n - bit c) [
          | true ↦ λ p. let e = here p in let f : count_of counts m ≤ 1 = leb-true (count_of counts m) 1 q in omega arith
          | false ↦ λ p. omega arith
        ] refl
        | false ↦ λ q. inserted (count_of counts m - 1) ∙ elim (pointwise nat_eq m n) as (λ c. pointwise nat_eq m n ≡ c → cond c (count_of counts m - 1) (count_of counts n) ≡ count_of counts n - bit c) [
          | true ↦ λ p. let e = here p in omega arith
          | false ↦ λ p. omega arith
        ] refl
      ] refl

more_at : (counts : FinMap (slice_cmp nat_cmp) ℕ) (m : Option (List ℕ)) (n : List ℕ) → count_of (raised_at counts m) n ≡ count_of counts n + bit_of m n
more_at counts None n = omega arith
more_at counts (Some m) n = more counts m n

less_at : (counts : FinMap (slice_cmp nat_cmp) ℕ) (m : Option (List ℕ)) (n : List ℕ) → count_of (lowered_at counts m) n ≡ count_of counts n - bit_of m n
less_at counts None n = omega arith
less_at counts (Some m) n = less counts m n

settled_at : (counts : FinMap (slice_cmp nat_cmp) ℕ) (begun gone : Option (List ℕ)) (has : Bool) (n : List ℕ) → count_of (settled (raised_at counts begun) begun gone has) n ≡ (count_of counts n + cond has (bit_of begun n) 0) - bit_of gone n
settled_at counts begun gone true n =
    let e = less_at (raised_at counts begun) gone n in
    let f = more_at counts begun n in
    omega arith
settled_at counts begun gone false n =
    let e = less_at (lowered_at (raised_at counts begun) begun) gone n in
    let g = less_at (raised_at counts begun) begun n in
    let f = more_at counts begun n in
    omega arith

module _ (s : State) (sound : IsSound s) (counts : FinMap (slice_cmp nat_cmp) ℕ) (counted : AreCounted s counts) where
  pub counted_back : (begun : Option (List ℕ)) → AreCounted s (lowered_at (raised_at counts begun) begun)
  counted_back begun n =
      let g = less_at (raised_at counts begun) begun n in
      let f = more_at counts begun n in
      let c : count_of counts n ≡ total (bones s) n = counted n in
      omega arith

  pub counted_on : (t : ℕ) (e : Event) → IsTrue (allowed s t e) → AreCounted (step s t e).1 (settled (raised_at counts (begins s e)) (begins s e) (ends s e) (has_begun (step s t e).0))
  counted_on t e h n =
      let moved = moves s sound t e h n in
      let c : count_of counts n ≡ total (bones s) n = counted n in
      let k = settled_at counts (begins s e) (ends s e) (has_begun (step s t e).0) n in
      omega arith

  -- the same, of what a step has left
  pub counted_after : (t : ℕ) (e : Event) → IsTrue (allowed s t e) → (begun gone : Option (List ℕ)) → begun ≡ begins s e → gone ≡ ends s e → (up after : FinMap (slice_cmp nat_cmp) ℕ) (state : State) (reply : Reply)
      → up ≡ raised_at counts begun → state ≡ (step s t e).1 → reply ≡ (step s t e).0 → after ≡ settled up begun gone (has_begun reply) → AreCounted state after
  counted_after t e h begun gone is_begun is_gone up after state reply is_more is_state is_reply is_after n =
      ap (λ z. count_of z n) is_after
      ∙ ap (λ z. count_of (settled z begun gone (has_begun reply)) n) is_more
      ∙ ap (λ z. count_of (settled (raised_at counts begun) begun gone (has_begun z)) n) is_reply
      ∙ ap (λ z. count_of (settled (raised_at counts z) z gone (has_begun (step s t e).0)) n) is_begun
      ∙ ap (λ z. count_of (settled (raised_at counts (begins s e)) (begins s e) z (has_begun (step s t e).0)) n) is_gone
      ∙ counted_on t e h n
      ∙ ap (λ z. total (bones z) n) (sym is_state)

  pub counted_undone : (begun : Option (List ℕ)) (up after : FinMap (slice_cmp nat_cmp) ℕ) (state : State) → up ≡ raised_at counts begun → state ≡ s → after ≡ lowered_at up begun → AreCounted state after
  counted_undone begun up after state is_more is_state is_after n =
      ap (λ z. count_of z n) is_after
      ∙ ap (λ z. count_of (lowered_at z begun) n) is_more
      ∙ counted_back begun n
      ∙ ap (λ z. total (bones z) n) (sym is_state)

  pub counted_same : (after : FinMap (slice_cmp nat_cmp) ℕ) → after ≡ counts → AreCounted s after
  counted_same after is n = ap (λ z. count_of z n) is ∙ counted n
