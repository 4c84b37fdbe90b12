-- Every allowed event keeps what holds in every state.
use Rattle.std.proofs.Common.{◌≡◌, ℕ, Bool, true, false, ◌&&◌, List, [], ◌∷◌, None, refl, sym, ap, subst, ◌∙◌, eqb}
use Rattle.std.specs.Prelude.{IsTrue, slice_get, not, Result, OnOk, OnErr, Ok, Err}
use Rattle.std.specs.List.{list_any}
use Rattle.std.specs.FinMap.{get}
use Rattle.std.proofs.lemmas.Bool.{and_parts, and_from, false≢true, eq-eqb}
use Rattle.machine_events.specs.declared.event.Event.{Event}
use Rattle.machine_events.specs.declared.event.Event.TheVariants as events
use Rattle.machine_events.specs.declared.event.Entry.{Entry}
use Rattle.machine_events.specs.declared.event.Reply.{Reply}
use Rattle.module_lock.specs.Table.{holds}
use Rattle.module_lock.proofs.Kept.{acyclic-woken}
use Rattle.module_table.specs.Tables.{reloads}
use Rattle.machine_spec.specs.declared.state.State.{State}
use Rattle.machine_spec.specs.Parts.{is_open, is_main}
use Rattle.machine_spec.specs.Step.{step}
use Rattle.machine_spec.specs.Bodies.{end}
use Rattle.machine_spec.specs.Allowed.{allowed, can_end, is_open_of, has_spare, has_text, has_body, is_reloading, has_name}
use Rattle.machine_spec.specs.Legal.{replay, IsLegal}
use Rattle.machine_laws.specs.Bones.{bones, Body, body_bone}
use Rattle.machine_laws.specs.Sound.{IsSound}
use Rattle.machine_laws.proofs.Same.{unmap}
use Rattle.machine_laws.proofs.Owning.{any_at, owner_holds}
use Rattle.machine_laws.proofs.Leave.{runs, idle, fitting, spare}
use Rattle.machine_laws.proofs.Moves.{ns_same, main_same}
use Rattle.machine_laws.proofs.Facts.{sound_locked, sound_given}
use Rattle.machine_laws.proofs.Again.{sound_ended}
use Rattle.machine_laws.proofs.Kept.{Keeps, quiet, asks_slot, takes, sets_on, deletes_on, sets_tab, deletes_tab, adds_path, finishes_load, adds, adds_lazy}
use Rattle.machine_laws.proofs.Reloading.{begins, takes_again, ends_again, rouses}

untrue : (b : Bool) → not b ≡ true → b ≡ false
untrue true h = absurd (false≢true h)
untrue false h = refl

ends : (s : State) → IsSound s → (t : ℕ) → can_end s t ≡ true → Keeps (end s t)
ends s sound t h =
    let parts = and_parts (not (holds s.locks t) && not (reloads s.table t)) (not (list_any (is_open_of t) s.table.loads)) h in
    let front = and_parts (not (holds s.locks t)) (not (reloads s.table t)) parts.0 in
    let free = untrue (holds s.locks t) front.0 in
    let none = untrue (list_any (is_open_of t) s.table.loads) parts.1 in
    sound_ended (bones s) sound t
    (λ n owner. false≢true (sym free ∙ owner_holds s.locks n t owner))
    (λ i l is opened kind own.
    let at = unmap body_bone s.table.loads i l is in
    let opened' : is_open at.0.stage ≡ true = ap (λ (z : Body). is_open z.stage) at.2 ∙ opened in
    let kind' : not (is_main at.0.kind) ≡ true = ap not (ap (λ (z : Body). is_main z.kind) at.2 ∙ kind) in
    let own' : at.0.thread ≡ t = ap (λ (z : Body). z.thread) at.2 ∙ own in
    false≢true (sym none ∙ any_at (is_open_of t) s.table.loads i at.0 at.1
    (and_from (is_open at.0.stage && eqb at.0.thread t) (not (is_main at.0.kind)) (and_from (is_open at.0.stage) (eqb at.0.thread t) opened' (eq-eqb at.0.thread t own')) kind')))

pub sound_step : (s : State) → IsSound s → (t : ℕ) (e : Event) → IsTrue (allowed s t e) → IsSound (step s t e).1
sound_step s sound t (events.Ask n) h = asks_slot s sound t n _ (λ _. sound) (get s.table.cache n)
sound_step s sound t (events.Take n) h = takes s sound t n (idle s t (events.Take n) h refl) (runs s t (events.Take n) h)
sound_step s sound t events.Wake h = sound_locked (bones s) sound _ (acyclic-woken s.locks sound.acyclic t) refl
sound_step s sound t (events.Add spec text) h =
    adds s sound t spec text (and_parts (has_spare s t spec.name) (has_text spec.kind text) (fitting s t (events.Add spec text) h refl)).0 (runs s t (events.Add spec text) h)
sound_step s sound t (events.Finish load good) h = finishes_load s sound t load good (slice_get s.table.loads load) refl (fitting s t (events.Finish load good) h refl)
sound_step s sound t (events.Release n) h = sound_given (bones s) sound t n (spare s t n (fitting s t (events.Release n) h refl))
sound_step s sound t (events.GetVar mid x raw) h = sound
sound_step s sound t (events.SetVar raw mid x v) h = quiet s sound (step s t (events.SetVar raw mid x v)) (sets_on s t mid x v raw (slice_get s.table.objects mid))
sound_step s sound t (events.DelVar mid x raw) h = quiet s sound (step s t (events.DelVar mid x raw)) (deletes_on s t mid x raw (slice_get s.table.objects mid))
sound_step s sound t (events.Names mid) h = sound
sound_step s sound t (events.Source load) h = sound
sound_step s sound t (events.Print text) h = sound
sound_step s sound t events.PathGet h = sound
sound_step s sound t (events.PathAdd at v) h = quiet s sound (step s t (events.PathAdd at v)) (adds_path s t at v)
sound_step s sound t (events.DirGet dir part) h = sound
sound_step s sound t (events.DirSet dir listing) h = sound
sound_step s sound t events.Invalidate h = sound
sound_step s sound t (events.NsGet mid) h = sound
sound_step s sound t (events.NsSet mid state) h = quiet s sound (step s t (events.NsSet mid state)) (ns_same s mid state)
sound_step s sound t (events.TabGet n) h = sound
sound_step s sound t (events.TabSet n slot) h = quiet s sound (step s t (events.TabSet n slot)) (sets_tab s t n slot)
sound_step s sound t (events.TabDel n) h = quiet s sound (step s t (events.TabDel n)) (deletes_tab s t n)
sound_step s sound t (events.ReloadBegin mid raw) h = begins s sound t mid raw
sound_step s sound t (events.ReloadTake mid spec text) h =
    let fits = fitting s t (events.ReloadTake mid spec text) h refl in
    let parts = and_parts (is_reloading s t mid None && has_name (slice_get s.table.objects mid) spec.name) (has_text spec.kind text) fits in
    let front = and_parts (is_reloading s t mid None) (has_name (slice_get s.table.objects mid) spec.name) parts.0 in
    takes_again s sound t mid spec text front.0 front.1 (idle s t (events.ReloadTake mid spec text) h refl) (runs s t (events.ReloadTake mid spec text) h)
sound_step s sound t (events.ReloadEnd mid load) h = ends_again s sound t mid load (slice_get s.table.objects mid) (fitting s t (events.ReloadEnd mid load) h refl)
sound_step s sound t (events.AddLazy spec text) h =
    adds_lazy s sound t spec text (and_parts (has_spare s t spec.name) (has_body spec.kind) (fitting s t (events.AddLazy spec text) h refl)).0 (runs s t (events.AddLazy spec text) h)
sound_step s sound t (events.Rouse mid) h = rouses s sound t mid (idle s t (events.Rouse mid) h refl) (runs s t (events.Rouse mid) h)
sound_step s sound t (events.Main spec text) h = quiet s sound (step s t (events.Main spec text)) (main_same s t spec text)
sound_step s sound t (events.End outcome spent) h = ends s sound t (fitting s t (events.End outcome spent) h refl)

pub sound_after : (s : State) (es : List Entry) → IsSound s → IsLegal s es → IsSound (replay s es)
sound_after s [] sound h = sound
sound_after s (e ∷ es) sound h = sound_after (step s e.thread e.event).1 es (sound_step s sound e.thread e.event h.0) h.2

-- the state is sound whether the step went well or not
pub sound_by : {E : Type 0} (r : Result Reply E) (old new next : State) → IsSound old → IsSound next → OnOk r (new ≡ next) → OnErr r (new ≡ old) → IsSound new
sound_by (Ok x) old new next h k ok err = subst IsSound (sym ok) k
sound_by (Err e) old new next h k ok err = subst IsSound (sym err) h
