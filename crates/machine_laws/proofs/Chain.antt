-- From each thread the owners that follow one another lead to one that nobody holds up.
use Rattle.std.proofs.Common.{◌≡◌, ◌≢◌, ℕ, zero, suc, ◌+◌, ◌-◌, ◌<◌, ◌≤◌, arith, true, false, cond, List, [], ◌∷◌, ◌++◌, Option, Some, None, refl, sym, ap, subst, ◌∙◌, eqb, ltb}
use Rattle.std.specs.Prelude.{slice_get, is_some, option_and_then, replicate}
use Rattle.std.specs.Ordering.{nat_cmp, eq_by_cmp}
use Rattle.std.specs.Cmp.{nat_cmp_total, eq_by_cmp_equiv}
use Rattle.std.specs.FinMap.{get, remove, len, empty, get-empty, get-remove, len-remove, empty_of_len, contains_key}
use Rattle.std.proofs.lemmas.Bool.{false≢true, eqb-true, eqb-false, ltb-true, ltb-false}
use Rattle.std.proofs.lemmas.Bool.Decides.{nat_tests}
use Rattle.module_lock.specs.Table.{Table, owner_of, next, woken}
use Rattle.module_lock.specs.Cycles.{Walk, WaitsFor, IsAcyclic}
use Rattle.module_lock.proofs.Kept.{acyclic-woken}
use Rattle.machine_spec.specs.declared.state.State.{State}
use Rattle.machine_spec.specs.Opening.{round_starts}
use Rattle.machine_laws.specs.Bones.{Bones, bones}
use Rattle.machine_laws.specs.Sound.{IsSound, IsRunning}
use Rattle.machine_laws.specs.Answered.{IsInFirstRound, SomeoneGoesOn}

same_number : (x t : ℕ) → eq_by_cmp nat_cmp x t ≡ true → x ≡ t
same_number x t h = grind (arith, nat_tests)

narrow : (P Q : ℕ → ℕ → Type 0) → ((x y : ℕ) → Q x y → P x y) → (u v k : ℕ) → Walk Q u v k → Walk P u v k
narrow P Q step u v zero w = w
narrow P Q step u v (suc k) w = (w.0, step u w.0 w.1, narrow P Q step w.0 v k w.2)

-- where t's wait is taken away nobody else's follower changes, and t has none
woken_next : (s : Table) (t x : ℕ) → x ≢ t → next (woken s t) x ≡ next s x
woken_next s t x other =
    elim (eq_by_cmp nat_cmp x t) as (λ b. eq_by_cmp nat_cmp x t ≡ b → next (woken s t) x ≡ next s x) [
      | true ↦ λ p. absurd (other (same_number x t p))
      | false ↦ λ p. ap (option_and_then (owner_of s)) (get-remove nat_cmp_total s.waits t x ∙ ap (λ b. cond b None (get s.waits x)) p)
    ] refl

woken_none : (s : Table) (t : ℕ) → next (woken s t) t ≡ None
woken_none s t = ap (option_and_then (owner_of s)) (get-remove nat_cmp_total s.waits t t ∙ ap (λ b. cond b None (get s.waits t)) ((eq_by_cmp_equiv nat_cmp_total).refl t))

woken_step : (s : Table) (t x y : ℕ) → WaitsFor (woken s t) x y → WaitsFor s x y
woken_step s t x y h =
    elim (eqb x t) as (λ b. eqb x t ≡ b → WaitsFor s x y) [
      | true ↦ λ p. absurd (some_not_none (sym (ap (next (woken s t)) (eqb-true x t p) ∙ woken_none s t) ∙ h))
      | false ↦ λ p. sym (woken_next s t x (eqb-false x t p)) ∙ h
    ] refl
  where
    some_not_none : {y : ℕ} → None ≡ Some y → ⊥
    some_not_none e = cc

waits_some : (s : Table) (t u : ℕ) → next s t ≡ Some u → contains_key s.waits t ≡ true
waits_some s t u h = elim (get s.waits t) as (λ o. option_and_then (owner_of s) o ≡ Some u → is_some o ≡ true) [ None ↦ λ e. cc | Some n ↦ λ e. refl ] h

-- a thread to which the owners lead, and whom nobody holds up
record Ends (s : Table) (t : ℕ) : Type 0 where
  thread : ℕ
  steps : ℕ
  walk : Walk (WaitsFor s) t thread steps
  free : next s thread ≡ None

ends : (k : ℕ) (s : Table) → len s.waits ≤ k → IsAcyclic s → (t : ℕ) → (o : Option ℕ) → next s t ≡ o → Ends s t
ends k s few acyclic t None is = record { thread = t; steps = 0; walk = refl; free = is }
ends zero s few acyclic t (Some u) is =
    let none : s.waits ≡ empty = empty_of_len s.waits (omega arith) in
    let e : None ≡ Some u = sym (ap (λ w. option_and_then (owner_of s) (get w t)) none ∙ ap (option_and_then (owner_of s)) (get-empty nat_cmp t)) ∙ is in
    absurd (let f : ⊥ = cc in f)
ends (suc k) s few acyclic t (Some u) is =
    let fewer : len (remove s.waits t) ≡ len s.waits - 1 = len-remove nat_cmp_total s.waits t ∙ ap (λ b. cond b (len s.waits - 1) (len s.waits)) (waits_some s t u is) in
    let rest = ends k (woken s t) (omega arith) (acyclic-woken s acyclic t) u (next (woken s t) u) refl in
    let back : Walk (WaitsFor s) u rest.thread rest.steps = narrow (WaitsFor s) (WaitsFor (woken s t)) (woken_step s t) u rest.thread rest.steps rest.walk in
    let other : rest.thread ≢ t = λ e. acyclic.open_ended t rest.steps (u, is, subst (λ z. Walk (WaitsFor s) u z rest.steps) e back) in
    record { thread = rest.thread; steps = suc rest.steps; walk = (u, is, back); free = sym (woken_next s t rest.thread other) ∙ rest.free }

-- who stands at the end of a walk of owners is running, as its start is
runs_on : (b : Bones) → ((n : List ℕ) (t : ℕ) → owner_of b.locks n ≡ Some t → IsRunning b t) → (t v k : ℕ) → IsRunning b t → Walk (WaitsFor b.locks) t v k → IsRunning b v
runs_on b owners t v zero running walk = subst (IsRunning b) walk running
runs_on b owners t v (suc k) running walk = runs_on b owners walk.0 v k (owner_runs (get b.locks.waits t) walk.1) walk.2
  where
    owner_runs : (o : Option (List ℕ)) → option_and_then (owner_of b.locks) o ≡ Some walk.0 → IsRunning b walk.0
    owner_runs None e = cc
    owner_runs (Some n) e = owners n walk.0 e

-- the rounds stand one after another
in_first : (n : ℕ) (x : ℕ) (ys : List ℕ) (i y : ℕ) → i < n → slice_get (replicate n x ++ ys) i ≡ Some y → y ≡ x
in_first zero x ys i y less is = absurd (omega arith)
in_first (suc n) x ys zero y less is = cc
in_first (suc n) x ys (suc i) y less is = in_first n x ys i y (omega arith) is

in_rest : (n : ℕ) (x : ℕ) (ys : List ℕ) (i : ℕ) → n ≤ i → slice_get (replicate n x ++ ys) i ≡ slice_get ys (i - n)
in_rest zero x ys i less = let e : i - 0 ≡ i = omega arith in ap (slice_get ys) (sym e)
in_rest (suc n) x ys zero less = absurd (omega arith)
in_rest (suc n) x ys (suc i) less = let e : i - n ≡ suc i - suc n = omega arith in in_rest n x ys i (omega arith) ∙ ap (slice_get ys) e

-- the first of a round is not below where the rounds begin
least : (k : ℕ) (sizes : List ℕ) (i f : ℕ) → slice_get (round_starts k sizes) i ≡ Some f → k ≤ f
least k [] i f is = cc
least k (size ∷ sizes) i f is =
    elim (ltb i size) as (λ b. ltb i size ≡ b → k ≤ f) [
      | true ↦ λ p. let e = in_first size k (round_starts (k + size) sizes) i f (ltb-true i size p) is in omega arith
      | false ↦ λ p.
          let past = ltb-false i size p in
          let h = least (k + size) sizes (i - size) f (sym (in_rest size k (round_starts (k + size) sizes) i past) ∙ is) in
          omega arith
    ] refl

-- between the first of a thread's round and the thread all are of its round
one_round : (k : ℕ) (sizes : List ℕ) (i j f g : ℕ) → slice_get (round_starts k sizes) i ≡ Some f → slice_get (round_starts k sizes) j ≡ Some g → g ≤ k + i → i ≤ j → f ≡ g
one_round k [] i j f g at_i at_j low high = cc
one_round k (size ∷ sizes) i j f g at_i at_j low high =
    elim (ltb i size) as (λ b. ltb i size ≡ b → f ≡ g) [
      | true ↦ λ p.
          let less = ltb-true i size p in
          let first = in_first size k (round_starts (k + size) sizes) i f less at_i in
          elim (ltb j size) as (λ b. ltb j size ≡ b → f ≡ g) [
            | true ↦ λ q. first ∙ sym (in_first size k (round_starts (k + size) sizes) j g (ltb-true j size q) at_j)
            | false ↦ λ q.
                let past = ltb-false j size q in
                let h = least (k + size) sizes (j - size) g (sym (in_rest size k (round_starts (k + size) sizes) j past) ∙ at_j) in
                absurd (omega arith)
          ] refl
      | false ↦ λ p.
          let past = ltb-false i size p in
          let past_j : size ≤ j = omega arith in
          one_round (k + size) sizes (i - size) (j - size) f g
          (sym (in_rest size k (round_starts (k + size) sizes) i past) ∙ at_i)
          (sym (in_rest size k (round_starts (k + size) sizes) j past_j) ∙ at_j)
          (omega arith) (omega arith)
    ] refl

-- where a thread of the first round that goes on has not ended, someone of that round can go on
pub someone : (s : State) (sizes : List ℕ) → s.rounds ≡ round_starts 0 sizes → IsSound s → (t first : ℕ) → IsInFirstRound s t first → SomeoneGoesOn s first
someone s sizes rounds sound t first front =
    let b = bones s in
    let running : IsRunning b t = record { first = first; round = front.round; going = front.going; earlier = front.earlier } in
    let end = ends (len s.locks.waits) s.locks (omega arith) sound.acyclic t (next s.locks t) refl in
    let last : IsRunning b end.thread = runs_on b sound.owners t end.thread end.steps running end.walk in
    let round_t : slice_get (round_starts 0 sizes) t ≡ Some first = sym (ap (λ r. slice_get r t) rounds) ∙ front.round in
    let round_v : slice_get (round_starts 0 sizes) end.thread ≡ Some last.first = sym (ap (λ r. slice_get r end.thread) rounds) ∙ last.round in
    let same : last.first ≡ first = elim (ltb end.thread t) as (λ c. ltb end.thread t ≡ c → last.first ≡ first) [
      | true ↦ λ p. one_round 0 sizes end.thread t last.first first round_v round_t
          (not_below first end.thread (λ less. false≢true (sym last.going ∙ front.earlier end.thread less))) (let less = ltb-true end.thread t p in omega arith)
      | false ↦ λ p. sym (one_round 0 sizes t end.thread first last.first round_t round_v
          (not_below last.first t (λ less. false≢true (sym front.going ∙ last.earlier t less))) (let past = ltb-false end.thread t p in omega arith))
    ] refl in
    record { thread = end.thread; round = last.round ∙ ap (λ z. Some z) same; going = last.going; free = end.free }
  where
    not_below : (f u : ℕ) → (u < f → ⊥) → f ≤ 0 + u
    not_below f u h = elim (ltb u f) as (λ c. ltb u f ≡ c → f ≤ 0 + u) [ true ↦ λ p. absurd (h (ltb-true u f p)) | false ↦ λ p. let past = ltb-false u f p in omega arith ] refl
