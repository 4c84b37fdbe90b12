-- In every state of the machine the counts tell what the test of an event asks.
use Rattle.std.proofs.Common.{◌≡◌, ℕ, zero, suc, ◌<◌, ◌≤◌, arith, Bool, true, false, cond, ◌&&◌, ◌||◌, List, [], ◌∷◌, Option, Some, None, refl, sym, ap, subst, ◌∙◌, eqb}
use Rattle.std.specs.Prelude.{◌==◌, slice_get, not, sum_by}
use Rattle.std.specs.Option.{option_map}
use Rattle.std.specs.List.{list_any}
use Rattle.std.specs.Ordering.{nat_cmp}
use Rattle.std.specs.Cmp.Lexicographic.{slice_cmp}
use Rattle.std.specs.FinMap.{FinMap, get, empty, get-empty}
use Rattle.std.proofs.lemmas.Bool.{and_parts, false≢true, eqb-true, eq-eqb}
use Rattle.std.proofs.lemmas.List.Sums.{sum_by-cons}
use Rattle.std.proofs.lemmas.Slice.Eq.{bytes_eq-Decides}
use Rattle.module_lock.specs.declared.locks.Lock.{Lock}
use Rattle.module_lock.specs.Table.{lock_of, owner_of, holds}
use Rattle.module_table.specs.declared.module.Load.{Load}
use Rattle.machine_spec.specs.declared.state.State.{State}
use Rattle.machine_spec.specs.Parts.{is_open, is_main}
use Rattle.machine_spec.specs.Allowed.{is_open_of}
use Rattle.machine_laws.specs.Bones.{Bones, Module, Body, bones, body_bone, counts_in, opens, is_named, held_by, held}
use Rattle.machine_laws.specs.Sound.{AreSound, IsSound}
use Rattle.machine_laws.proofs.Same.{map_at}
use Rattle.machine_laws.proofs.Counts.{bit, same_sum, counts_there, some_open}
use Rattle.machine_laws.proofs.Leave.{opens_of}
use Rattle.machine_laws.proofs.Owning.{owner_holds}
use Rattle.import_machine.specs.SpareCounts.{count_at, AreTold}
use Rattle.import_machine.specs.Counts.{counts_on, total, AreCounted}

held_owner : (t : ℕ) (o : Option Lock) → 0 < held_by t o → option_map (λ (lock : Lock). lock.owner) o ≡ Some t
held_owner t None h = absurd (omega arith)
held_owner t (Some lock) h =
    elim (eqb lock.owner t) as (λ c. eqb lock.owner t ≡ c → 0 < cond c lock.count 0 → Some lock.owner ≡ Some t) [
      | true ↦ λ p less. ap (λ z. Some z) (eqb-true lock.owner t p)
      | false ↦ λ p less. absurd (omega arith)
    ] refl h

-- one more test changes nothing that holds where the others do
more_test : (o m h c : Bool) → (o ≡ true → m ≡ false → h ≡ true → c ≡ true) → (o && not m && h) ≡ (o && c && not m && h)
more_test false m h c f = refl
more_test true true h true f = refl
more_test true true h false f = refl
more_test true false false true f = refl
more_test true false false false f = refl
more_test true false true true f = refl
more_test true false true false f = absurd (false≢true (f refl refl refl))

none_any : {X : Type 0} (p : X → Bool) (xs : List X) → ((i : ℕ) (x : X) → slice_get xs i ≡ Some x → p x ≡ false) → list_any p xs ≡ false
none_any p [] h = refl
none_any p (x ∷ xs) h = ap (λ c. c || list_any p xs) (h zero x refl) ∙ none_any p xs (λ i y is. h (suc i) y is)

none_sum : {X : Type 0} (f : X → ℕ) (xs : List X) → ((i : ℕ) (x : X) → slice_get xs i ≡ Some x → f x ≡ 0) → sum_by f xs ≡ 0
none_sum f [] h = refl
none_sum f (x ∷ xs) h = let here = h zero x refl in let rest = none_sum f xs (λ i y is. h (suc i) y is) in sum_by-cons f x xs ∙ omega arith

module _ (b : Bones) (sound : AreSound b) where
  -- the lock of an open load's name is its thread's
  owned_by : (i : ℕ) (l : Body) → slice_get b.bodies i ≡ Some l → is_open l.stage ≡ true → is_main l.kind ≡ false → (m : Module) → slice_get b.modules l.mid ≡ Some m → owner_of b.locks m.name ≡ Some l.thread
  owned_by i l is opened kind m there =
      let some : 0 < opens b l.thread m.name = some_open b l.thread m.name b.bodies i l is (counts_there b l m there opened kind) in
      let covers : opens b l.thread m.name ≤ held b.locks l.thread m.name = sound.covered l.thread m.name in
      held_owner l.thread (lock_of b.locks m.name) (omega arith)

  owned_name : (i : ℕ) (l : Body) → slice_get b.bodies i ≡ Some l → is_open l.stage ≡ true → is_main l.kind ≡ false → (n : List ℕ) → is_named (slice_get b.modules l.mid) n ≡ true → owner_of b.locks n ≡ Some l.thread
  owned_name i l is opened kind n named =
      let fits = sound.bodies i l is in
      let name : fits.0.name ≡ n = (bytes_eq-Decides fits.0.name n).0 (sym (ap (λ o. is_named o n) fits.1) ∙ named) in
      subst (λ z. owner_of b.locks z ≡ Some l.thread) name (owned_by i l is opened kind fits.0 fits.1)

  -- all open loads of a name are its lock's owner's
  pub total_owned : (t : ℕ) (n : List ℕ) → owner_of b.locks n ≡ Some t → total b n ≡ opens b t n
  total_owned t n owner =
      same_sum (λ l. bit (counts_on b.modules n l)) (λ l. bit (counts_in b t n l)) b.bodies
      (λ i l is. ap bit (more_test (is_open l.stage) (is_main l.kind) (is_named (slice_get b.modules l.mid) n) (l.thread == t)
      (λ opened kind named. let e : Some l.thread ≡ Some t = sym (owned_name i l is opened kind n named) ∙ owner in eq-eqb l.thread t (some_same l.thread t e))))
    where
      some_same : (x y : ℕ) → Some x ≡ Some y → x ≡ y
      some_same x y e = cc

  -- where nobody owns the lock there are none
  total_free : (n : List ℕ) → owner_of b.locks n ≡ None → total b n ≡ 0
  total_free n free =
      none_sum (λ l. bit (counts_on b.modules n l)) b.bodies
      (λ i l is. elim (counts_on b.modules n l) as (λ c. counts_on b.modules n l ≡ c → bit c ≡ 0) [
        | true ↦ λ p.
            let parts = and_parts (is_open l.stage && not (is_main l.kind)) (is_named (slice_get b.modules l.mid) n) p in
            let front = and_parts (is_open l.stage) (not (is_main l.kind)) parts.0 in
            let e : None ≡ Some l.thread = sym free ∙ owned_name i l is front.0 (untrue (is_main l.kind) front.1) n parts.1 in
            cc
        | false ↦ λ p. refl
      ] refl)
    where
      untrue : (c : Bool) → not c ≡ true → c ≡ false
      untrue true h = absurd (false≢true h)
      untrue false h = refl

module _ (s : State) (sound : IsSound s) where
  without : (t : ℕ) → holds s.locks t ≡ false → list_any (is_open_of t) s.table.loads ≡ false
  without t free = none_any (is_open_of t) s.table.loads (λ i l is. one i l is)
    where
      untrue : (c : Bool) → not c ≡ true → c ≡ false
      untrue true h = absurd (false≢true h)
      untrue false h = refl

      one : (i : ℕ) (l : Load) → slice_get s.table.loads i ≡ Some l → is_open_of t l ≡ false
      one i l is =
          elim (is_open_of t l) as (λ c. is_open_of t l ≡ c → c ≡ false) [
            | true ↦ λ p.
                let parts = and_parts (is_open l.stage && (l.thread == t)) (not (is_main l.kind)) p in
                let front = and_parts (is_open l.stage) (l.thread == t) parts.0 in
                let at = map_at body_bone s.table.loads i l is in
                let fits = sound.bodies i (body_bone l) at in
                let owner = owned_by (bones s) sound i (body_bone l) at front.0 (untrue (is_main l.kind) parts.1) fits.0 fits.1 in
                let own : owner_of s.locks fits.0.name ≡ Some t = owner ∙ ap (λ z. Some z) (eqb-true l.thread t front.1) in
                absurd (false≢true (sym free ∙ owner_holds s.locks fits.0.name t own))
            | false ↦ λ p. refl
          ] refl

  pub told : (counts : FinMap (slice_cmp nat_cmp) ℕ) → AreCounted s counts → AreTold s counts
  told counts counted = record {
    owned = λ t n owner. counted n ∙ total_owned (bones s) sound t n owner ∙ opens_of s t n;
    without = without;
  }

  -- before the first event
  pub none_counted : s.locks.locks ≡ empty → AreCounted s empty
  none_counted nobody n =
      let free : owner_of s.locks n ≡ None = ap (λ z. option_map (λ (lock : Lock). lock.owner) (get z n)) nobody ∙ ap (option_map (λ (lock : Lock). lock.owner)) (get-empty (slice_cmp nat_cmp) n) in
      ap count_at (get-empty (slice_cmp nat_cmp) n) ∙ sym (total_free (bones s) sound n free)
