-- Who is answered a module that is initialising, and when an answer is Cycle.
use Rattle.std.proofs.Common.{◌≡◌, ℕ, ◌<◌, arith, Bool, true, false, cond, ◌&&◌, List, Option, Some, None, refl, sym, ap, subst, ◌∙◌, eqb}
use Rattle.std.specs.Prelude.{slice_get, not}
use Rattle.std.specs.FinMap.{get}
use Rattle.std.proofs.lemmas.Bool.{false≢true, eqb-true}
use Rattle.py_value.specs.declared.value.ModRef.{ModRef}
use Rattle.machine_events.specs.declared.module.Slot.{Slot}
use Rattle.machine_events.specs.declared.module.Slot.TheVariants as slots
use Rattle.machine_events.specs.declared.event.Reply.{Reply}
use Rattle.machine_events.specs.declared.event.Reply.TheVariants as replies
use Rattle.module_lock.specs.declared.locks.Lock.{Lock}
use Rattle.module_lock.specs.Table.{Table, closes, is_free, owns, owns_by, lock_of, got}
use Rattle.module_lock.specs.Cycles.{Closes}
use Rattle.module_lock.proofs.Follow.{closes-yes}
use Rattle.module_table.specs.declared.module.Object.{Object}
use Rattle.module_table.specs.declared.module.Load.{Load}
use Rattle.machine_spec.specs.declared.state.State.{State}
use Rattle.machine_spec.specs.Parts.{is_initialising, is_open, is_imported}
use Rattle.machine_spec.specs.Waits.{wait_reply, wait_on, ask_object, ask_none, ask_slot, ask, take_name}
use Rattle.machine_laws.specs.Bones.{bones, module_bone, body_bone, counts_in, opens, held_by, held}
use Rattle.machine_laws.specs.Sound.{IsSound}
use Rattle.machine_laws.specs.Answered.{IsOwn}
use Rattle.machine_laws.proofs.Same.{map_at}
use Rattle.machine_laws.proofs.Counts.{counts_there, some_open}
use Rattle.machine_laws.proofs.Kept.{not_main}

-- which kind of answer a reply is, and the module that it names
abbrev is_module : Reply → Bool
is_module (replies.Module m) = true
is_module reply = false

abbrev is_cycle : Reply → Bool
is_cycle (replies.Cycle m) = true
is_cycle reply = false

abbrev named : ModRef → Reply → ModRef
named d (replies.Module m) = m
named d (replies.Cycle m) = m
named d reply = d

no_module : (r : Reply) (m : ModRef) → is_module r ≡ false → r ≡ replies.Module m → ⊥
no_module r m other is = false≢true (sym other ∙ ap is_module is)

no_cycle : (r : Reply) (m : ModRef) → is_cycle r ≡ false → r ≡ replies.Cycle m → ⊥
no_cycle r m other is = false≢true (sym other ∙ ap is_cycle is)

not_waiting : (locks : Table) (t : ℕ) (n : List ℕ) (blocked : Reply) → is_module blocked ≡ false → is_module (wait_reply locks t n blocked) ≡ false
not_waiting locks t n blocked h = elim (closes locks t n) as (λ c. is_module (cond c blocked (replies.Wait n)) ≡ false) [ true ↦ h | false ↦ refl ]

owner_is : (u t : ℕ) (o : Option Lock) → 0 < held_by u o → owns_by t o ≡ true → u ≡ t
owner_is u t None held owns_it = absurd (false≢true owns_it)
owner_is u t (Some lock) held owns_it =
    elim (eqb lock.owner u) as (λ c. eqb lock.owner u ≡ c → 0 < cond c lock.count 0 → u ≡ t) [
      | true ↦ λ p _. sym (eqb-true lock.owner u p) ∙ eqb-true lock.owner t owns_it
      | false ↦ λ p h. absurd (omega arith)
    ] refl held

module _ (s : State) (sound : IsSound s) (t : ℕ) where
  -- an open load of a module whose lock t owns is t's
  own_load : (mid : ℕ) (o : Object) → slice_get s.table.objects mid ≡ Some o → owns s.locks t o.spec.name ≡ true
      → (i : ℕ) (l : Load) → slice_get s.table.loads i ≡ Some l → l.mid ≡ mid → is_open l.stage ≡ true → is_imported l.kind ≡ true → l.thread ≡ t
  own_load mid o is owns_it i l at of_it opened imported =
      let b = bones s in
      let body = body_bone l in
      let it = module_bone o in
      let there : slice_get b.modules l.mid ≡ Some it = ap (slice_get b.modules) of_it ∙ map_at module_bone s.table.objects mid o is in
      let counts : counts_in b l.thread it.name body ≡ true = counts_there b body it there opened (not_main l.kind imported) in
      let some : 0 < opens b l.thread it.name = some_open b l.thread it.name b.bodies i body (map_at body_bone s.table.loads i l at) counts in
      let most = sound.covered l.thread it.name in
      owner_is l.thread t (lock_of s.locks o.spec.name) (omega arith) owns_it

  met : (m m' : ModRef) (o : Object) (o' : Option Object) → slice_get s.table.objects m'.mid ≡ o' → (ask_object s t m' o').0 ≡ replies.Module m → slice_get s.table.objects m.mid ≡ Some o → is_initialising o.phase ≡ true → owns s.locks t o.spec.name ≡ true
  met m m' o None at is there init =
      let same : m' ≡ m = ap (named m) is in
      let e : None ≡ Some o = sym at ∙ ap (λ (z : ModRef). slice_get s.table.objects z.mid) same ∙ there in cc
  met m m' o (Some o') at is there init =
      elim (is_initialising o'.phase && not (owns s.locks t o'.spec.name)) as (λ c. is_initialising o'.phase && not (owns s.locks t o'.spec.name) ≡ c → (cond c (wait_on s t o'.spec.name (replies.Cycle m')) (replies.Module m', s)).0 ≡ replies.Module m → owns s.locks t o.spec.name ≡ true) [
        | true ↦ λ p e. absurd (no_module (wait_reply s.locks t o'.spec.name (replies.Cycle m')) m (not_waiting s.locks t o'.spec.name (replies.Cycle m') refl) e)
        | false ↦ λ p e.
            let same : m' ≡ m = ap (named m) e in
            let one : o' ≡ o = let f : Some o' ≡ Some o = sym at ∙ ap (λ (z : ModRef). slice_get s.table.objects z.mid) same ∙ there in cc in
            let q : is_initialising o.phase && not (owns s.locks t o.spec.name) ≡ false = ap (λ (z : Object). is_initialising z.phase && not (owns s.locks t z.spec.name)) (sym one) ∙ p in
            owned (is_initialising o.phase) (owns s.locks t o.spec.name) init q
      ] refl is
    where
      owned : (a b : Bool) → a ≡ true → a && not b ≡ false → b ≡ true
      owned a true h q = refl
      owned true false h q = absurd (false≢true (sym q))
      owned false false h q = absurd (false≢true h)

  unmet : (n : List ℕ) (missing : Reply × State) → is_module missing.0 ≡ false → is_module (ask_none s t n missing).0 ≡ false
  unmet n missing other = elim (is_free s.locks t n) as (λ c. is_module (cond c missing (wait_on s t n replies.Deadlock)).0 ≡ false) [ true ↦ other | false ↦ not_waiting s.locks t n replies.Deadlock refl ]

  told : (n : List ℕ) (missing : Reply × State) → is_module missing.0 ≡ false → (m : ModRef) (o : Object) (slot : Option Slot) → (ask_slot s t n missing slot).0 ≡ replies.Module m → slice_get s.table.objects m.mid ≡ Some o → is_initialising o.phase ≡ true → owns s.locks t o.spec.name ≡ true
  told n missing other m o None is there init = absurd (no_module (ask_none s t n missing).0 m (unmet n missing other) is)
  told n missing other m o (Some slots.Absent) is there init = absurd (no_module (ask_none s t n missing).0 m (unmet n missing other) is)
  told n missing other m o (Some slots.Halted) is there init = absurd (no_module replies.Halted m refl is)
  told n missing other m o (Some (slots.Module m')) is there init = met m m' o (slice_get s.table.objects m'.mid) refl is there init

  pub asked_own : (n : List ℕ) (m : ModRef) (o : Object) → (ask s t n).0 ≡ replies.Module m → slice_get s.table.objects m.mid ≡ Some o → is_initialising o.phase ≡ true → IsOwn s t m.mid o.spec.name
  asked_own n m o is there init =
      let owns_it = told n (replies.Missing, s) refl m o (get s.table.cache n) is there init in
      record { lock = owns_it; load = own_load m.mid o there owns_it }

  pub taken_own : (n : List ℕ) (m : ModRef) (o : Object) → (take_name s t n).0 ≡ replies.Module m → slice_get s.table.objects m.mid ≡ Some o → is_initialising o.phase ≡ true → IsOwn s t m.mid o.spec.name
  taken_own n m o is there init =
      let owns_it = told n (replies.Mine s.table.epoch, record s { locks = got s.locks t n }) refl m o (get s.table.cache n) is there init in
      record { lock = owns_it; load = own_load m.mid o there owns_it }

module _ (s : State) (t : ℕ) where
  blocked_by : (n : List ℕ) (m : ModRef) (blocked : Reply) → wait_reply s.locks t n blocked ≡ replies.Cycle m → closes s.locks t n ≡ true
  blocked_by n m blocked h =
      elim (closes s.locks t n) as (λ c. cond c blocked (replies.Wait n) ≡ replies.Cycle m → c ≡ true) [ true ↦ λ _. refl | false ↦ λ e. absurd (no_cycle (replies.Wait n) m refl e) ] h

  no_deadlock : (n : List ℕ) → is_cycle (wait_reply s.locks t n replies.Deadlock) ≡ false
  no_deadlock n = elim (closes s.locks t n) as (λ c. is_cycle (cond c replies.Deadlock (replies.Wait n)) ≡ false) [ true ↦ refl | false ↦ refl ]

  met_cycle : (m m' : ModRef) (o : Object) (o' : Option Object) → slice_get s.table.objects m'.mid ≡ o' → (ask_object s t m' o').0 ≡ replies.Cycle m → slice_get s.table.objects m.mid ≡ Some o → Closes s.locks t o.spec.name
  met_cycle m m' o None at is there = absurd (no_cycle (replies.Module m') m refl is)
  met_cycle m m' o (Some o') at is there =
      elim (is_initialising o'.phase && not (owns s.locks t o'.spec.name)) as (λ c. (cond c (wait_on s t o'.spec.name (replies.Cycle m')) (replies.Module m', s)).0 ≡ replies.Cycle m → Closes s.locks t o.spec.name) [
        | true ↦ λ e.
            let closed = blocked_by o'.spec.name m (replies.Cycle m') e in
            let same : m' ≡ m = ap (named m) (sym (ap (λ c. cond c (replies.Cycle m') (replies.Wait o'.spec.name)) closed) ∙ e) in
            let one : o' ≡ o = let f : Some o' ≡ Some o = sym at ∙ ap (λ (z : ModRef). slice_get s.table.objects z.mid) same ∙ there in cc in
            subst (λ (z : Object). Closes s.locks t z.spec.name) one (closes-yes s.locks t o'.spec.name closed)
        | false ↦ λ e. absurd (no_cycle (replies.Module m') m refl e)
      ] is

  unmet_cycle : (n : List ℕ) (missing : Reply × State) → is_cycle missing.0 ≡ false → is_cycle (ask_none s t n missing).0 ≡ false
  unmet_cycle n missing other = elim (is_free s.locks t n) as (λ c. is_cycle (cond c missing (wait_on s t n replies.Deadlock)).0 ≡ false) [ true ↦ other | false ↦ no_deadlock n ]

  cycle_told : (n : List ℕ) (missing : Reply × State) → is_cycle missing.0 ≡ false → (m : ModRef) (o : Object) (slot : Option Slot) → (ask_slot s t n missing slot).0 ≡ replies.Cycle m → slice_get s.table.objects m.mid ≡ Some o → Closes s.locks t o.spec.name
  cycle_told n missing other m o None is there = absurd (no_cycle (ask_none s t n missing).0 m (unmet_cycle n missing other) is)
  cycle_told n missing other m o (Some slots.Absent) is there = absurd (no_cycle (ask_none s t n missing).0 m (unmet_cycle n missing other) is)
  cycle_told n missing other m o (Some slots.Halted) is there = absurd (no_cycle replies.Halted m refl is)
  cycle_told n missing other m o (Some (slots.Module m')) is there = met_cycle m m' o (slice_get s.table.objects m'.mid) refl is there

  pub asked_cycle : (n : List ℕ) (m : ModRef) (o : Object) → (ask s t n).0 ≡ replies.Cycle m → slice_get s.table.objects m.mid ≡ Some o → Closes s.locks t o.spec.name
  asked_cycle n m o is there = cycle_told n (replies.Missing, s) refl m o (get s.table.cache n) is there

  pub taken_cycle : (n : List ℕ) (m : ModRef) (o : Object) → (take_name s t n).0 ≡ replies.Cycle m → slice_get s.table.objects m.mid ≡ Some o → Closes s.locks t o.spec.name
  taken_cycle n m o is there = cycle_told n (replies.Mine s.table.epoch, record s { locks = got s.locks t n }) refl m o (get s.table.cache n) is there
