-- The facts over all legal histories.
use Rattle.std.proofs.Common.{◌≡◌, ℕ, true, List, Some, arith}
use Rattle.std.specs.Prelude.{slice_get}
use Rattle.py_value.specs.declared.value.ModRef.{ModRef}
use Rattle.machine_events.specs.declared.event.Entry.{Entry}
use Rattle.machine_events.specs.declared.event.Event.{Event}
use Rattle.machine_events.specs.declared.event.Event.TheVariants as events
use Rattle.machine_events.specs.declared.event.Reply.TheVariants as replies
use Rattle.module_lock.specs.Cycles.{Closes}
use Rattle.module_table.specs.declared.module.Object.{Object}
use Rattle.machine_events.specs.Fitting.{Fits}
use Rattle.machine_spec.specs.Step.{step}
use Rattle.machine_spec.specs.Parts.{is_initialising}
use Rattle.machine_spec.specs.Legal.{Allowed, IsLegal, replay}
use Rattle.machine_laws.specs.Sound.{IsSound}
use Rattle.machine_laws.specs.Answered.{IsOwn, IsInFirstRound, SomeoneGoesOn, GoOn, HasOneLoad}
use Rattle.machine_laws.specs.Begun.{Begun, first}
use Rattle.machine_laws.proofs.First.{always, sound_opening, rounds_long}
use Rattle.machine_laws.proofs.Fitting.{fits_step}
use Rattle.machine_laws.proofs.Replies.{asked_own, taken_own, asked_cycle, taken_cycle}
use Rattle.machine_laws.proofs.Going.{goes_after, same_rounds}
use Rattle.machine_laws.proofs.Chain.{someone}
use Rattle.machine_laws.proofs.OneLoad.{one_open, one_resting}
use Rattle.module_table.specs.declared.module.LoadStage.TheVariants as stages
use Rattle.module_table.specs.declared.module.Phase.TheVariants as phases

pub sound_first : (b : Begun) → IsSound (first b)
sound_first b =
    let texts = b.as_many in
    let whole = b.whole in
    let few = b.few in
    let long = rounds_long 0 b.rounds in
    sound_opening b.scripts b.texts b.path b.rounds (omega arith) (omega arith)

pub sound_always : (b : Begun) (history : List Entry) → IsLegal (first b) history → IsSound (replay (first b) history)
sound_always b history legal =
    let texts = b.as_many in
    let whole = b.whole in
    let few = b.few in
    let long = rounds_long 0 b.rounds in
    always b.scripts b.texts b.path b.rounds history (omega arith) (omega arith) legal

pub fits_always : (b : Begun) (history : List Entry) → IsLegal (first b) history → (t : ℕ) (event : Event) → Allowed (replay (first b) history) t event → Fits event (step (replay (first b) history) t event).0
fits_always b history legal t event may = fits_step (replay (first b) history) (sound_always b history legal) t event may

pub own_always : (b : Begun) (history : List Entry) → IsLegal (first b) history → (t : ℕ) (n : List ℕ) (m : ModRef) (o : Object) → (step (replay (first b) history) t (events.Ask n)).0 ≡ replies.Module m
    → slice_get (replay (first b) history).table.objects m.mid ≡ Some o → is_initialising o.phase ≡ true → IsOwn (replay (first b) history) t m.mid o.spec.name
own_always b history legal t n m o is there init = asked_own (replay (first b) history) (sound_always b history legal) t n m o is there init

pub taken_always : (b : Begun) (history : List Entry) → IsLegal (first b) history → (t : ℕ) (n : List ℕ) (m : ModRef) (o : Object) → (step (replay (first b) history) t (events.Take n)).0 ≡ replies.Module m
    → slice_get (replay (first b) history).table.objects m.mid ≡ Some o → is_initialising o.phase ≡ true → IsOwn (replay (first b) history) t m.mid o.spec.name
taken_always b history legal t n m o is there init = taken_own (replay (first b) history) (sound_always b history legal) t n m o is there init

pub cycle_always : (b : Begun) (history : List Entry) (t : ℕ) (n : List ℕ) (m : ModRef) (o : Object) → (step (replay (first b) history) t (events.Ask n)).0 ≡ replies.Cycle m
    → slice_get (replay (first b) history).table.objects m.mid ≡ Some o → Closes (replay (first b) history).locks t o.spec.name
cycle_always b history t n m o is there = asked_cycle (replay (first b) history) t n m o is there

pub taken_cycle_always : (b : Begun) (history : List Entry) (t : ℕ) (n : List ℕ) (m : ModRef) (o : Object) → (step (replay (first b) history) t (events.Take n)).0 ≡ replies.Cycle m
    → slice_get (replay (first b) history).table.objects m.mid ≡ Some o → Closes (replay (first b) history).locks t o.spec.name
taken_cycle_always b history t n m o is there = taken_cycle (replay (first b) history) t n m o is there

pub loads_always : (b : Begun) (history more : List Entry) → IsLegal (first b) history → IsLegal (replay (first b) history) more → GoOn (replay (first b) history).table.loads (replay (replay (first b) history) more).table.loads
loads_always b history more legal on = goes_after (replay (first b) history) more (sound_always b history legal) on

pub someone_always : (b : Begun) (history : List Entry) → IsLegal (first b) history → (t start : ℕ) → IsInFirstRound (replay (first b) history) t start → SomeoneGoesOn (replay (first b) history) start
someone_always b history legal t start front = someone (replay (first b) history) b.rounds (same_rounds (first b) history (sound_first b) legal) (sound_always b history legal) t start front

pub open_always : (b : Begun) (history : List Entry) → IsLegal (first b) history → (mid : ℕ) (o : Object) → slice_get (replay (first b) history).table.objects mid ≡ Some o → o.phase ≡ phases.Initialising → HasOneLoad (replay (first b) history) mid stages.Open
open_always b history legal mid o is phase = one_open (replay (first b) history) (sound_always b history legal) mid o is phase

pub resting_always : (b : Begun) (history : List Entry) → IsLegal (first b) history → (mid : ℕ) (o : Object) → slice_get (replay (first b) history).table.objects mid ≡ Some o → o.phase ≡ phases.Lazy → HasOneLoad (replay (first b) history) mid stages.Resting
resting_always b history legal mid o is phase = one_resting (replay (first b) history) (sound_always b history legal) mid o is phase
