-- Whoever is alone in a round never waits.
use Rattle.std.proofs.Common.{◌≡◌, ◌<◌, ℕ, arith, Bool, true, false, cond, ◌&&◌, List, [], ◌∷◌, Option, Some, None, refl, sym, ap, subst, ◌∙◌, eqb}
use Rattle.std.specs.Prelude.{slice_get, is_some, not, fold, option_and_then}
use Rattle.std.specs.Option.{option_map}
use Rattle.std.specs.Cmp.{nat_cmp_total, eq_by_cmp_equiv}
use Rattle.std.specs.FinMap.{get, get-insert}
use Rattle.std.proofs.lemmas.Bool.{false≢true, and_parts, eqb-true}
use Rattle.py_value.specs.declared.value.ModRef.{ModRef}
use Rattle.spec_core.specs.declared.spec.Spec.{Spec}
use Rattle.machine_events.specs.Modules.{module_of}
use Rattle.machine_events.specs.declared.module.Slot.{Slot}
use Rattle.machine_events.specs.declared.module.Slot.TheVariants as slots
use Rattle.machine_events.specs.declared.event.Event.{Event}
use Rattle.machine_events.specs.declared.event.Event.TheVariants as events
use Rattle.machine_events.specs.declared.event.Entry.{Entry}
use Rattle.machine_events.specs.declared.event.Reply.{Reply}
use Rattle.machine_events.specs.declared.event.Reply.TheVariants as replies
use Rattle.module_lock.specs.declared.locks.Lock.{Lock}
use Rattle.module_lock.specs.Table.{lock_of, owner_of, next, closes, is_free, is_free_for, owns, got, waiting}
use Rattle.module_lock.proofs.Kept.{acyclic-waiting}
use Rattle.module_table.specs.declared.module.Object.{Object}
use Rattle.module_table.specs.declared.module.Load.{Load}
use Rattle.module_table.specs.declared.module.LoadStage.{LoadStage}
use Rattle.module_table.specs.declared.module.LoadStage.TheVariants as stages
use Rattle.module_table.specs.declared.module.Phase.{Phase}
use Rattle.module_table.specs.declared.module.Phase.TheVariants as phases
use Rattle.machine_spec.specs.declared.state.State.{State}
use Rattle.machine_spec.specs.Parts.{is_initialising, is_open}
use Rattle.machine_spec.specs.Waits.{wait_on, ask_object, ask_none, ask_slot}
use Rattle.machine_spec.specs.Reloads.{is_entry, reload_start, reload_take}
use Rattle.machine_spec.specs.Lazies.{open_lazy, rouse_lazy, rouse_phase, rouse_on}
use Rattle.machine_spec.specs.Opening.{round_starts}
use Rattle.machine_spec.specs.Step.{step}
use Rattle.machine_spec.specs.Legal.{IsLegal}
use Rattle.machine_laws.specs.Bones.{bones, Module, module_bone, counts_in, opens, held_by}
use Rattle.machine_laws.specs.Sound.{IsSound, IsRunning, FitsPhase, HasBody, phase_of}
use Rattle.machine_laws.specs.Answered.{SomeoneGoesOn}
use Rattle.machine_laws.specs.Begun.{Begun, first}
use Rattle.machine_laws.proofs.Same.{either, map_at}
use Rattle.machine_laws.proofs.Counts.{counts_there, some_open}
use Rattle.machine_laws.proofs.Changes.{made_fits}
use Rattle.machine_laws.proofs.Facts.{sound_locked}
use Rattle.machine_laws.proofs.Kept.{not_main}
use Rattle.machine_laws.proofs.Leave.{runs}
use Rattle.machine_laws.proofs.Chain.{someone}
use Rattle.machine_laws.proofs.Going.{goes_step}
use Rattle.machine_laws.proofs.Steps.{sound_step}
use Rattle.machine_shown.specs.Shown.{Shown, Doing, Running, Waiting, Over, shown, shown_first, shown_more, does}
use Rattle.machine_shown.specs.Own.{own, IsLone}
use Rattle.machine_allows.proofs.Along.{on_entry, shown_entry, whole_first}

abbrev is_wait : Reply → Bool
is_wait (replies.Wait n) = true
is_wait reply = false

abbrev pub is_waiting : Doing → Bool
is_waiting Running = false
is_waiting Waiting = true
is_waiting Over = false

owned : (t : ℕ) (o : Option Lock) → is_free_for t o ≡ false → is_some (option_map (λ (lock : Lock). lock.owner) o) ≡ true
owned t None h = absurd (false≢true (sym h))
owned t (Some lock) h = refl

held_owner : (t : ℕ) (o : Option Lock) → 0 < held_by t o → is_some (option_map (λ (lock : Lock). lock.owner) o) ≡ true
held_owner t None h = absurd (omega arith)
held_owner t (Some lock) h = refl

module _ (s : State) (sound : IsSound s) (sizes : List ℕ) (rounds : s.rounds ≡ round_starts 0 sizes) (t : ℕ) (running : IsRunning (bones s) t) (lone : IsLone s.rounds t) where
  -- a lock that is owned is not waited for: someone of the round can go on
  no_wait : (n : List ℕ) → closes s.locks t n ≡ false → is_some (owner_of s.locks n) ≡ true → ⊥
  no_wait n safe owner =
      let after : State = record s { locks = waiting s.locks t n } in
      let kept : IsSound after = sound_locked (bones s) sound (waiting s.locks t n) (acyclic-waiting s.locks sound.acyclic t n safe) refl in
      let goes : SomeoneGoesOn after running.first = someone after sizes rounds kept t running.first (record { round = running.round; going = running.going; earlier = running.earlier }) in
      let same : goes.thread ≡ t = lone goes.thread (goes.round ∙ sym running.round) in
      let awaits : get (waiting s.locks t n).waits t ≡ Some n = get-insert nat_cmp_total s.locks.waits t n t ∙ ap (λ c. cond c (Some n) (get s.locks.waits t)) ((eq_by_cmp_equiv nat_cmp_total).refl t) in
      let none : owner_of s.locks n ≡ None = sym (ap (option_and_then (owner_of (waiting s.locks t n))) awaits) ∙ subst (λ u. next (waiting s.locks t n) u ≡ None) same goes.free in
      false≢true (sym (ap is_some none) ∙ owner)

  waits_not : (n : List ℕ) (blocked : Reply) → is_wait blocked ≡ false → is_some (owner_of s.locks n) ≡ true → is_wait (wait_on s t n blocked).0 ≡ false
  waits_not n blocked other owner =
      elim (closes s.locks t n) as (λ c. closes s.locks t n ≡ c → is_wait (cond c blocked (replies.Wait n)) ≡ false) [
        | true ↦ λ _. other
        | false ↦ λ p. absurd (no_wait n p owner)
      ] refl

  not_free : (n : List ℕ) → is_free s.locks t n ≡ false → is_some (owner_of s.locks n) ≡ true
  not_free n h = owned t (lock_of s.locks n) h

  stage_open : (stage : LoadStage) → phase_of stage ≡ phases.Initialising → is_open stage ≡ true
  stage_open stages.Resting h = absurd (let z : ⊥ = cc in z)
  stage_open stages.Open h = refl
  stage_open stages.Ended h = absurd (let z : ⊥ = cc in z)

  is_init : (phase : Phase) → is_initialising phase ≡ true → phase ≡ phases.Initialising
  is_init phases.Ready h = absurd (false≢true h)
  is_init phases.Initialising h = refl
  is_init phases.Lazy h = absurd (false≢true h)

  -- the lock of a module that is initialising is owned
  initialising_owned : (mid : ℕ) (o : Object) → slice_get s.table.objects mid ≡ Some o → is_initialising o.phase ≡ true → is_some (owner_of s.locks o.spec.name) ≡ true
  initialising_owned mid o is init =
      let b = bones s in
      let it : Module = module_bone o in
      let it_at : slice_get b.modules mid ≡ Some it = map_at module_bone s.table.objects mid o is in
      let has : HasBody b mid it = subst (FitsPhase b mid it) (is_init o.phase init) (sound.modules mid it it_at) in
      let fits = sound.bodies has.0 has.1 has.3 in
      let one : fits.0 ≡ it = let e : Some fits.0 ≡ Some it = sym fits.1 ∙ ap (slice_get b.modules) has.4 ∙ it_at in cc in
      let made = made_fits has.0 has.1 fits.0 has.1.kind has.5 fits.2 in
      let opened : is_open has.1.stage ≡ true = stage_open has.1.stage (sym made.1 ∙ ap (λ (z : Module). z.phase) one ∙ is_init o.phase init) in
      let there : slice_get b.modules has.1.mid ≡ Some it = ap (slice_get b.modules) has.4 ∙ it_at in
      let counts : counts_in b has.1.thread it.name has.1 ≡ true = counts_there b has.1 it there opened (not_main has.1.kind has.5) in
      let some : 0 < opens b has.1.thread it.name = some_open b has.1.thread it.name b.bodies has.0 has.1 has.3 counts in
      let most = sound.covered has.1.thread it.name in
      held_owner has.1.thread (lock_of s.locks o.spec.name) (omega arith)

  asks_object : (m : ModRef) (o : Option Object) → slice_get s.table.objects m.mid ≡ o → is_wait (ask_object s t m o).0 ≡ false
  asks_object m None is = refl
  asks_object m (Some o) is =
      elim (is_initialising o.phase && not (owns s.locks t o.spec.name)) as (λ c. is_initialising o.phase && not (owns s.locks t o.spec.name) ≡ c → is_wait (cond c (wait_on s t o.spec.name (replies.Cycle m)) (replies.Module m, s)).0 ≡ false) [
        | true ↦ λ p. waits_not o.spec.name (replies.Cycle m) refl (initialising_owned m.mid o is (and_parts (is_initialising o.phase) (not (owns s.locks t o.spec.name)) p).0)
        | false ↦ λ _. refl
      ] refl

  asks_none : (n : List ℕ) (missing : Reply × State) → is_wait missing.0 ≡ false → is_wait (ask_none s t n missing).0 ≡ false
  asks_none n missing other =
      elim (is_free s.locks t n) as (λ c. is_free s.locks t n ≡ c → is_wait (cond c missing (wait_on s t n replies.Deadlock)).0 ≡ false) [
        | true ↦ λ _. other
        | false ↦ λ p. waits_not n replies.Deadlock refl (not_free n p)
      ] refl

  asks_slot : (n : List ℕ) (missing : Reply × State) → is_wait missing.0 ≡ false → (slot : Option Slot) → is_wait (ask_slot s t n missing slot).0 ≡ false
  asks_slot n missing other None = asks_none n missing other
  asks_slot n missing other (Some slots.Absent) = asks_none n missing other
  asks_slot n missing other (Some slots.Halted) = refl
  asks_slot n missing other (Some (slots.Module m)) = asks_object m (slice_get s.table.objects m.mid) refl

  takes_again : (mid : ℕ) (spec : Spec) (text : List ℕ) → is_wait (reload_take s t mid spec text).0 ≡ false
  takes_again mid spec text =
      elim (is_free s.locks t spec.name) as (λ c. is_free s.locks t spec.name ≡ c → is_wait (cond c (cond (is_entry mid (get s.table.cache spec.name)) (reload_start s t mid spec text) (replies.NotThere, s)) (wait_on s t spec.name replies.Deadlock)).0 ≡ false) [
        | true ↦ λ _. either (λ p. is_wait p.0 ≡ false) (is_entry mid (get s.table.cache spec.name)) (reload_start s t mid spec text) (replies.NotThere, s) refl refl
        | false ↦ λ p. waits_not spec.name replies.Deadlock refl (not_free spec.name p)
      ] refl

  opens_lazy : (mid : ℕ) (n : List ℕ) (load : ℕ) (l : Option Load) → is_wait (open_lazy s t mid n load l).0 ≡ false
  opens_lazy mid n load None = refl
  opens_lazy mid n load (Some l) = refl

  rouses_lazy : (mid : ℕ) (n : List ℕ) (load : Option ℕ) → is_wait (rouse_lazy s t mid n load).0 ≡ false
  rouses_lazy mid n None = refl
  rouses_lazy mid n (Some load) =
      elim (is_free s.locks t n) as (λ c. is_free s.locks t n ≡ c → is_wait (cond c (open_lazy s t mid n load (slice_get s.table.loads load)) (wait_on s t n replies.Deadlock)).0 ≡ false) [
        | true ↦ λ _. opens_lazy mid n load (slice_get s.table.loads load)
        | false ↦ λ p. waits_not n replies.Deadlock refl (not_free n p)
      ] refl

  rouses_phase : (mid : ℕ) (o : Object) (phase : Phase) → slice_get s.table.objects mid ≡ Some o → o.phase ≡ phase → is_wait (rouse_phase s t mid o phase).0 ≡ false
  rouses_phase mid o phases.Ready is at = refl
  rouses_phase mid o phases.Initialising is at =
      either (λ p. is_wait p.0 ≡ false) (owns s.locks t o.spec.name) (replies.Ready, s) (wait_on s t o.spec.name (replies.Cycle (module_of o.spec mid))) refl
      (waits_not o.spec.name (replies.Cycle (module_of o.spec mid)) refl (initialising_owned mid o is (ap is_initialising at)))
  rouses_phase mid o phases.Lazy is at = rouses_lazy mid o.spec.name o.load

  rouses_on : (mid : ℕ) (o : Option Object) → slice_get s.table.objects mid ≡ o → is_wait (rouse_on s t mid o).0 ≡ false
  rouses_on mid None is = refl
  rouses_on mid (Some o) is = rouses_phase mid o o.phase is refl

  answers_on : (r : Reply) (doing : Doing) → is_wait r ≡ false → is_waiting doing ≡ false → is_waiting (does (events.Ask []) r doing) ≡ false
  answers_on (replies.Wait n) doing h d = absurd (false≢true (sym h))
  answers_on (replies.Module m) doing h d = d
  answers_on (replies.Cycle m) doing h d = d
  answers_on replies.Halted doing h d = d
  answers_on replies.Missing doing h d = d
  answers_on replies.Deadlock doing h d = d
  answers_on (replies.Mine epoch) doing h d = d
  answers_on replies.Woken doing h d = d
  answers_on (replies.Load load mid) doing h d = d
  answers_on (replies.Kept slot) doing h d = d
  answers_on replies.Lost doing h d = d
  answers_on replies.LostParent doing h d = d
  answers_on (replies.Value v) doing h d = d
  answers_on (replies.Unset init) doing h d = d
  answers_on replies.Sleeping doing h d = d
  answers_on replies.Fixed doing h d = d
  answers_on (replies.Names names) doing h d = d
  answers_on (replies.Loaded m text) doing h d = d
  answers_on (replies.Path items) doing h d = d
  answers_on replies.Full doing h d = d
  answers_on (replies.Ns state epoch) doing h d = d
  answers_on (replies.Slot slot) doing h d = d
  answers_on (replies.Was slot) doing h d = d
  answers_on replies.NotThere doing h d = d
  answers_on (replies.Busy m) doing h d = d
  answers_on (replies.Begun epoch) doing h d = d
  answers_on (replies.Yours load text) doing h d = d
  answers_on replies.NoListing doing h d = d
  answers_on (replies.Listing time part file) doing h d = d
  answers_on replies.Ready doing h d = d
  answers_on replies.Done doing h d = d

  pub lone_step : (e : Event) (doing : Doing) → is_waiting doing ≡ false → is_waiting (does e (step s t e).0 doing) ≡ false
  lone_step (events.Ask n) doing d = answers_on (step s t (events.Ask n)).0 doing (asks_slot n (replies.Missing, s) refl (get s.table.cache n)) d
  lone_step (events.Take n) doing d = answers_on (step s t (events.Take n)).0 doing (asks_slot n (replies.Mine s.table.epoch, record s { locks = got s.locks t n }) refl (get s.table.cache n)) d
  lone_step (events.ReloadTake mid spec text) doing d = answers_on (step s t (events.ReloadTake mid spec text)).0 doing (takes_again mid spec text) d
  lone_step (events.Rouse mid) doing d = answers_on (step s t (events.Rouse mid)).0 doing (rouses_on mid (slice_get s.table.objects mid) refl) d
  lone_step events.Wake doing d = refl
  lone_step (events.End outcome spent) doing d = refl
  lone_step (events.Add spec text) doing d = d
  lone_step (events.Finish load good) doing d = d
  lone_step (events.Release n) doing d = d
  lone_step (events.GetVar mid x raw) doing d = d
  lone_step (events.SetVar raw mid x v) doing d = d
  lone_step (events.DelVar mid x raw) doing d = d
  lone_step (events.Names mid) doing d = d
  lone_step (events.Source load) doing d = d
  lone_step (events.Print text) doing d = d
  lone_step events.PathGet doing d = d
  lone_step (events.PathAdd at v) doing d = d
  lone_step (events.DirGet dir part) doing d = d
  lone_step (events.DirSet dir listing) doing d = d
  lone_step events.Invalidate doing d = d
  lone_step (events.NsGet mid) doing d = d
  lone_step (events.NsSet mid state) doing d = d
  lone_step (events.TabGet n) doing d = d
  lone_step (events.TabSet n slot) doing d = d
  lone_step (events.TabDel n) doing d = d
  lone_step (events.ReloadBegin mid raw) doing d = d
  lone_step (events.ReloadEnd mid load) doing d = d
  lone_step (events.AddLazy spec text) doing d = d
  lone_step (events.Main spec text) doing d = d

lone_along : (s : State) (sizes : List ℕ) (t : ℕ) (es : List Entry) (k : Shown) → IsSound s → s.rounds ≡ round_starts 0 sizes → IsLone s.rounds t → IsLegal s es → is_waiting k.doing ≡ false → is_waiting (fold shown_more k (own t es)).doing ≡ false
lone_along s sizes t [] k sound rounds lone legal d = d
lone_along s sizes t (e ∷ es) k sound rounds lone legal d =
    let after : State = (step s e.thread e.event).1 in
    let same : after.rounds ≡ s.rounds = (goes_step s sound e.thread e.event).1 in
    let next : is_waiting (on_entry t k e).doing ≡ false =
    elim (eqb e.thread t) as (λ c. eqb e.thread t ≡ c → is_waiting (cond c (shown_more k (e.event, e.reply)) k).doing ≡ false) [
      | true ↦ λ p.
          let own_it : e.thread ≡ t = eqb-true e.thread t p in
          let running : IsRunning (bones s) t = subst (IsRunning (bones s)) own_it (runs s e.thread e.event legal.0) in
          let h : is_waiting (does e.event (step s t e.event).0 k.doing) ≡ false = lone_step s sound sizes rounds t running lone e.event k.doing d in
          ap (λ r. is_waiting (does e.event r k.doing)) (legal.1 ∙ ap (λ u. (step s u e.event).0) own_it) ∙ h
      | false ↦ λ _. d
    ] refl in
    ap (λ (z : Shown). is_waiting z.doing) (shown_entry t k e es)
    ∙ lone_along after sizes t es (on_entry t k e) (sound_step s sound e.thread e.event legal.0) (same ∙ rounds) (subst (λ rs. IsLone rs t) (sym same) lone) legal.2 next

pub lone_waits_not : (b : Begun) (history : List Entry) → IsLegal (first b) history → (t : ℕ) → IsLone (first b).rounds t → (shown t (own t history)).doing ≡ Waiting → ⊥
lone_waits_not b history legal t lone waits =
    false≢true (sym (lone_along (first b) b.rounds t history (shown_first t) (whole_first b).sound refl lone legal refl) ∙ ap is_waiting waits)
