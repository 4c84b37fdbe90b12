-- Loads are never taken away, and only go on.
use Rattle.std.proofs.Common.{◌≡◌, ℕ, ◌≤◌, arith, Bool, true, false, ◌&&◌, List, [], ◌∷◌, ◌++◌, length, Option, Some, None, refl, sym, ap, subst, ◌∙◌, eqb}
use Rattle.std.specs.Prelude.{slice_get, slice_set, not, nat_lt}
use Rattle.std.specs.FinMap.{get}
use Rattle.std.proofs.lemmas.Bool.{eqb-true, eqb-false}
use Rattle.py_value.specs.declared.value.ModRef.{ModRef}
use Rattle.spec_core.specs.declared.spec.Spec.{Spec}
use Rattle.machine_events.specs.declared.module.Slot.{Slot}
use Rattle.machine_events.specs.declared.module.Slot.TheVariants as slots
use Rattle.machine_events.specs.declared.event.Event.{Event}
use Rattle.machine_events.specs.declared.event.Event.TheVariants as events
use Rattle.machine_events.specs.declared.event.Entry.{Entry}
use Rattle.machine_events.specs.declared.event.Reply.{Reply}
use Rattle.machine_events.specs.declared.event.Reply.TheVariants as replies
use Rattle.module_lock.specs.Table.{is_free, owns}
use Rattle.module_table.specs.Lists.{changed, changed_to}
use Rattle.module_table.specs.Vars.{var_of}
use Rattle.module_table.specs.declared.table.Table.{Table as Modules}
use Rattle.py_value.specs.declared.value.Value.{Value}
use Rattle.spec_core.specs.Names.{parent_of}
use Rattle.machine_spec.specs.Cache.{is_fixed}
use Rattle.module_table.specs.declared.module.Object.{Object}
use Rattle.module_table.specs.declared.module.Load.{Load}
use Rattle.module_table.specs.declared.module.Reload.{Reload}
use Rattle.module_table.specs.declared.module.LoadKind.{LoadKind}
use Rattle.module_table.specs.declared.module.LoadKind.TheVariants as load_kinds
use Rattle.module_table.specs.declared.module.LoadStage.{LoadStage}
use Rattle.module_table.specs.declared.module.LoadStage.TheVariants as stages
use Rattle.module_table.specs.declared.module.Phase.{Phase}
use Rattle.module_table.specs.declared.module.Phase.TheVariants as phases
use Rattle.machine_spec.specs.declared.state.State.{State}
use Rattle.machine_spec.specs.Parts.{is_initialising, is_built_in, is_built_in_place}
use Rattle.machine_spec.specs.Waits.{ask_object, ask_slot}
use Rattle.machine_spec.specs.Bodies.{bound, bind_under, bind_parent, good_entry, finish_entry, finish_object, finish_load}
use Rattle.machine_spec.specs.Variables.{sleeping, set_on, del_found, del_on}
use Rattle.machine_spec.specs.Reloads.{is_entry, enter, reload_begin_on, reload_take, reload_leave, reload_end_on}
use Rattle.machine_spec.specs.Lazies.{open_lazy, rouse_lazy, rouse_phase, rouse_on}
use Rattle.machine_spec.specs.Step.{step}
use Rattle.machine_spec.specs.Legal.{replay, IsLegal}
use Rattle.machine_laws.specs.Bones.{Bones, Body, Module, bones, body_bone, module_bone}
use Rattle.machine_laws.specs.Sound.{IsSound, FitsPhase, HasBody, phase_of}
use Rattle.machine_laws.specs.Answered.{rank, GoOn}
use Rattle.machine_laws.proofs.Same.{either, map_at}
use Rattle.machine_laws.proofs.Lists.{pushed_keeps, set_there, set_elsewhere}
use Rattle.machine_laws.proofs.Changes.{made_fits}
use Rattle.machine_laws.proofs.Kept.{finishes_entry}
use Rattle.machine_laws.proofs.Steps.{sound_step}

-- a list of loads after another
abbrev Goes : List Load → List Load → Type 0
Goes before after = GoOn before after

stay : (ls : List Load) → Goes ls ls
stay ls = record { kept = λ i l is. (l, is, refl, refl, le (rank l.stage)) }
  where
    le : (n : ℕ) → n ≤ n
    le n = omega arith

pushed : (ls : List Load) (l : Load) → Goes ls (ls ++ l ∷ [])
pushed ls l = record { kept = λ i k is. (k, pushed_keeps ls l i k is, refl, refl, le (rank k.stage)) }
  where
    le : (n : ℕ) → n ≤ n
    le n = omega arith

-- one load goes on
moved : (ls : List Load) (f : Load → Load) (i : ℕ) → ((l : Load) → slice_get ls i ≡ Some l → ((f l).kind ≡ l.kind) × ((f l).mid ≡ l.mid) × (rank l.stage ≤ rank (f l).stage)) → Goes ls (changed f ls i)
moved ls f i h = by (slice_get ls i) refl
  where
    le : (n : ℕ) → n ≤ n
    le n = omega arith

    at_set : (l : Load) → slice_get ls i ≡ Some l → (j : ℕ) (k : Load) → slice_get ls j ≡ Some k → (m : Load) × (slice_get (slice_set ls i (f l)) j ≡ Some m) × (m.kind ≡ k.kind) × (m.mid ≡ k.mid) × (rank k.stage ≤ rank m.stage)
    at_set l is j k at =
        elim (eqb j i) as (λ c. eqb j i ≡ c → (m : Load) × (slice_get (slice_set ls i (f l)) j ≡ Some m) × (m.kind ≡ k.kind) × (m.mid ≡ k.mid) × (rank k.stage ≤ rank m.stage)) [
          | true ↦ λ p.
              let here : j ≡ i = eqb-true j i p in
              let same : l ≡ k = let e : Some l ≡ Some k = sym is ∙ ap (slice_get ls) (sym here) ∙ at in cc in
              let go = h l is in
              (f l, ap (slice_get (slice_set ls i (f l))) here ∙ set_there ls i l (f l) is, go.0 ∙ ap (λ (z : Load). z.kind) same, go.1 ∙ ap (λ (z : Load). z.mid) same, subst (λ (z : Load). rank z.stage ≤ rank (f l).stage) same go.2)
          | false ↦ λ p. (k, set_elsewhere ls i j (f l) (eqb-false j i p) ∙ at, refl, refl, le (rank k.stage))
        ] refl

    by : (o : Option Load) → slice_get ls i ≡ o → Goes ls (changed_to f ls i o)
    by None is = stay ls
    by (Some l) is = record { kept = at_set l is }

-- what an event leaves has the loads gone on, and the same rounds
abbrev pub On : State → Reply × State → Type 0
On s p = GoOn s.table.loads p.1.table.loads × (p.1.rounds ≡ s.rounds)

same_loads : (s : State) → On s (replies.Done, s)
same_loads s = (stay s.table.loads, refl)

module _ (s : State) (t : ℕ) where
  asks_object : (m : ModRef) (o : Option Object) → On s (ask_object s t m o)
  asks_object m None = same_loads s
  asks_object m (Some o) = either (On s) (is_initialising o.phase && not (owns s.locks t o.spec.name)) _ _ (same_loads s) (same_loads s)

  asks_slot : (n : List ℕ) (missing : Reply × State) → On s missing → (slot : Option Slot) → On s (ask_slot s t n missing slot)
  asks_slot n missing h None = either (On s) (is_free s.locks t n) _ _ h (same_loads s)
  asks_slot n missing h (Some slots.Absent) = either (On s) (is_free s.locks t n) _ _ h (same_loads s)
  asks_slot n missing h (Some slots.Halted) = same_loads s
  asks_slot n missing h (Some (slots.Module m)) = asks_object m (slice_get s.table.objects m.mid)

  enters : (mid : ℕ) (n : List ℕ) (r : Option Reload) → On s (enter s t mid n r)
  enters mid n None = same_loads s
  enters mid n (Some r) = same_loads s

  begins : (mid : ℕ) (raw : Bool) (o : Option Object) → On s (reload_begin_on s t mid raw o)
  begins mid raw None = same_loads s
  begins mid raw (Some o) =
      either (On s) (is_built_in o.spec.kind) _ _ (same_loads s)
      (either (On s) (sleeping s t raw o) _ _ (same_loads s)
      (either (On s) (is_entry mid (get s.table.cache o.spec.name)) _ _ (enters mid o.spec.name (get s.table.reloading o.spec.name)) (same_loads s)))

  -- the load is pushed whatever the reloads have
  starts_again : (mid : ℕ) (spec : Spec) (text : List ℕ) (o : Option Reload) → GoOn s.table.loads (s.table.loads ++ record { kind = load_kinds.Reload; thread = t; mid = mid; text = text; stage = stages.Open } ∷ []) × (s.rounds ≡ s.rounds)
  starts_again mid spec text o = (pushed s.table.loads _, refl)

  takes_again : (mid : ℕ) (spec : Spec) (text : List ℕ) → On s (reload_take s t mid spec text)
  takes_again mid spec text =
      either (On s) (is_free s.locks t spec.name) _ _
      (either (On s) (is_entry mid (get s.table.cache spec.name)) _ _ (starts_again mid spec text (get s.table.reloading spec.name)) (same_loads s))
      (same_loads s)

  sets_on : (mid : ℕ) (x : List ℕ) (v : Value) (raw : Bool) (o : Option Object) → On s (set_on s t mid x v raw o)
  sets_on mid x v raw None = same_loads s
  sets_on mid x v raw (Some o) = either (On s) (is_built_in o.spec.kind) _ _ (same_loads s) (either (On s) (sleeping s t raw o) _ _ (same_loads s) (same_loads s))

  deletes_found : (mid : ℕ) (x : List ℕ) (o : Object) (v : Option Value) → On s (del_found s mid x o v)
  deletes_found mid x o None = same_loads s
  deletes_found mid x o (Some v) = same_loads s

  deletes_on : (mid : ℕ) (x : List ℕ) (raw : Bool) (o : Option Object) → On s (del_on s t mid x raw o)
  deletes_on mid x raw None = same_loads s
  deletes_on mid x raw (Some o) = either (On s) (is_built_in o.spec.kind) _ _ (same_loads s) (either (On s) (sleeping s t raw o) _ _ (same_loads s) (deletes_found mid x o (var_of o.vars x)))

-- the loads of what a finished entry leaves are the same
entry_loads : (s : State) (kind : LoadKind) (good : Bool) (n : List ℕ) → (finish_entry s kind good n).1.table.loads ≡ s.table.loads
entry_loads s kind good n = either (λ (p : Reply × State). p.1.table.loads ≡ s.table.loads) good _ _ (good_loads kind (get s.table.cache n)) refl
  where
    bound_loads : (entry parent : Slot) → (bound s n entry parent).table.loads ≡ s.table.loads
    bound_loads entry slots.Absent = refl
    bound_loads entry slots.Halted = refl
    bound_loads entry (slots.Module m) = either (λ (z : State). z.table.loads ≡ s.table.loads) (is_built_in_place m.place) _ _ refl refl

    under_loads : (entry : Slot) (parent : Option Slot) → (bind_under s n entry parent).1.table.loads ≡ s.table.loads
    under_loads entry None = refl
    under_loads entry (Some parent) = bound_loads entry parent

    parent_loads : (entry : Slot) (parent : Option (List ℕ)) → (bind_parent s n entry parent).1.table.loads ≡ s.table.loads
    parent_loads entry None = refl
    parent_loads entry (Some parent) = under_loads entry (get s.table.cache parent)

    good_loads : (kind : LoadKind) (entry : Option Slot) → (good_entry s kind n entry).1.table.loads ≡ s.table.loads
    good_loads load_kinds.Plain None = refl
    good_loads load_kinds.Plain (Some entry) = parent_loads entry (parent_of n)
    good_loads load_kinds.Main entry = refl
    good_loads load_kinds.Lazy entry = refl
    good_loads load_kinds.Reload entry = refl

ended_later : (stage : LoadStage) → rank stage ≤ 2
ended_later stages.Resting = omega arith
ended_later stages.Open = omega arith
ended_later stages.Ended = omega arith

module _ (s : State) (t : ℕ) where
  finishes_object : (load : ℕ) (good : Bool) (l : Load) (o : Option Object) → On s (finish_object s t load good l o)
  finishes_object load good l None = same_loads s
  finishes_object load good l (Some o) = (
    subst (λ ls. Goes s.table.loads (changed (λ (l : Load). record l { stage = stages.Ended }) ls load)) (sym (entry_loads s l.kind good o.spec.name))
        (moved s.table.loads (λ l. record l { stage = stages.Ended }) load (λ l is. (refl, refl, ended_later l.stage))),
    ap (λ (b : Bones). b.rounds) (finishes_entry s t l.kind good o.spec.name),
  )

  finishes : (load : ℕ) (good : Bool) (l : Option Load) → On s (finish_load s t load good l)
  finishes load good None = same_loads s
  finishes load good (Some l) = finishes_object load good l (slice_get s.table.objects l.mid)

  leaves : (n : List ℕ) (load : Option ℕ) → On s (reload_leave s t n load)
  leaves n None = same_loads s
  leaves n (Some load) = (moved s.table.loads (λ l. record l { stage = stages.Ended }) load (λ l is. (refl, refl, ended_later l.stage)), refl)

  ends_again : (load : Option ℕ) (o : Option Object) → On s (reload_end_on s t load o)
  ends_again load None = same_loads s
  ends_again load (Some o) = leaves o.spec.name load

-- a lazy module's load rests
resting : (stage : LoadStage) → phase_of stage ≡ phases.Lazy → rank stage ≤ 1
resting stages.Resting h = omega arith
resting stages.Open h = omega arith
resting stages.Ended h = absurd (ready_not_lazy h)
  where
    ready_not_lazy : phases.Ready ≡ phases.Lazy → ⊥
    ready_not_lazy e = cc

module _ (s : State) (sound : IsSound s) (t : ℕ) where
  lazy_rests : (mid : ℕ) (o : Object) (load : ℕ) (l : Load) → slice_get s.table.objects mid ≡ Some o → o.phase ≡ phases.Lazy → o.load ≡ Some load → slice_get s.table.loads load ≡ Some l → rank l.stage ≤ 1
  lazy_rests mid o load l is phase made_by at =
      let b = bones s in
      let it = module_bone o in
      let it_at : slice_get b.modules mid ≡ Some it = map_at module_bone s.table.objects mid o is in
      let has : HasBody b mid it = subst (FitsPhase b mid it) phase (sound.modules mid it it_at) in
      let index : has.0 ≡ load = let e : Some has.0 ≡ Some load = sym has.2 ∙ made_by in cc in
      let same : has.1 ≡ body_bone l = let e : Some has.1 ≡ Some (body_bone l) = sym has.3 ∙ ap (slice_get b.bodies) index ∙ map_at body_bone s.table.loads load l at in cc in
      let fits = sound.bodies has.0 has.1 has.3 in
      let one : fits.0 ≡ it = let e : Some fits.0 ≡ Some it = sym fits.1 ∙ ap (slice_get b.modules) has.4 ∙ it_at in cc in
      let made = made_fits has.0 has.1 fits.0 has.1.kind has.5 fits.2 in
      resting l.stage (sym (sym phase ∙ ap (λ (z : Module). z.phase) (sym one) ∙ made.1 ∙ ap (λ (z : Body). phase_of z.stage) same))

  opens_lazy : (mid : ℕ) (o : Object) (load : ℕ) (l : Option Load) → slice_get s.table.objects mid ≡ Some o → o.phase ≡ phases.Lazy → o.load ≡ Some load → slice_get s.table.loads load ≡ l → On s (open_lazy s t mid o.spec.name load l)
  opens_lazy mid o load None is phase made_by at = same_loads s
  opens_lazy mid o load (Some l) is phase made_by at =
      (moved s.table.loads (λ l. record l { stage = stages.Open; thread = t }) load (λ k here. (refl, refl, lazy_rests mid o load k is phase made_by here)), refl)

  rouses_lazy : (mid : ℕ) (o : Object) (load : Option ℕ) → slice_get s.table.objects mid ≡ Some o → o.phase ≡ phases.Lazy → o.load ≡ load → On s (rouse_lazy s t mid o.spec.name load)
  rouses_lazy mid o None is phase made_by = same_loads s
  rouses_lazy mid o (Some load) is phase made_by =
      either (On s) (is_free s.locks t o.spec.name) _ _ (opens_lazy mid o load (slice_get s.table.loads load) is phase made_by refl) (same_loads s)

  rouses_phase : (mid : ℕ) (o : Object) (phase : Phase) → slice_get s.table.objects mid ≡ Some o → o.phase ≡ phase → On s (rouse_phase s t mid o phase)
  rouses_phase mid o phases.Ready is phase = same_loads s
  rouses_phase mid o phases.Initialising is phase = either (On s) (owns s.locks t o.spec.name) _ _ (same_loads s) (same_loads s)
  rouses_phase mid o phases.Lazy is phase = rouses_lazy mid o o.load is phase refl

  rouses_on : (mid : ℕ) (o : Option Object) → slice_get s.table.objects mid ≡ o → On s (rouse_on s t mid o)
  rouses_on mid None is = same_loads s
  rouses_on mid (Some o) is = rouses_phase mid o o.phase is refl

main_loads : (s : State) (t : ℕ) (text : List ℕ) → Goes s.table.loads (changed (λ (l : Load). record l { text = text }) s.table.loads t)
main_loads s t text = moved s.table.loads (λ l. record l { text = text }) t (λ l is. (refl, refl, le (rank l.stage)))
  where
    le : (n : ℕ) → n ≤ n
    le n = omega arith

pub goes_step : (s : State) → IsSound s → (t : ℕ) (e : Event) → On s (step s t e)
goes_step s sound t (events.Ask n) = asks_slot s t n _ (same_loads s) (get s.table.cache n)
goes_step s sound t (events.Take n) = asks_slot s t n _ (same_loads s) (get s.table.cache n)
goes_step s sound t events.Wake = same_loads s
goes_step s sound t (events.Add spec text) = (pushed s.table.loads _, refl)
goes_step s sound t (events.Finish load good) = finishes s t load good (slice_get s.table.loads load)
goes_step s sound t (events.Release n) = same_loads s
goes_step s sound t (events.GetVar mid x raw) = same_loads s
goes_step s sound t (events.SetVar raw mid x v) = sets_on s t mid x v raw (slice_get s.table.objects mid)
goes_step s sound t (events.DelVar mid x raw) = deletes_on s t mid x raw (slice_get s.table.objects mid)
goes_step s sound t (events.Names mid) = same_loads s
goes_step s sound t (events.Source load) = same_loads s
goes_step s sound t (events.Print text) = same_loads s
goes_step s sound t events.PathGet = same_loads s
goes_step s sound t (events.PathAdd at v) = either (λ (table : Modules). GoOn s.table.loads table.loads × (s.rounds ≡ s.rounds)) (nat_lt (length s.table.path) 4096) _ _ (same_loads s) (same_loads s)
goes_step s sound t (events.DirGet dir part) = same_loads s
goes_step s sound t (events.DirSet dir listing) = same_loads s
goes_step s sound t events.Invalidate = same_loads s
goes_step s sound t (events.NsGet mid) = same_loads s
goes_step s sound t (events.NsSet mid state) = same_loads s
goes_step s sound t (events.TabGet n) = same_loads s
goes_step s sound t (events.TabSet n slot) = either (On s) (is_fixed n) _ _ (same_loads s) (same_loads s)
goes_step s sound t (events.TabDel n) = either (On s) (is_fixed n) _ _ (same_loads s) (same_loads s)
goes_step s sound t (events.ReloadBegin mid raw) = begins s t mid raw (slice_get s.table.objects mid)
goes_step s sound t (events.ReloadTake mid spec text) = takes_again s t mid spec text
goes_step s sound t (events.ReloadEnd mid load) = ends_again s t load (slice_get s.table.objects mid)
goes_step s sound t (events.AddLazy spec text) = (pushed s.table.loads _, refl)
goes_step s sound t (events.Rouse mid) = rouses_on s sound t mid (slice_get s.table.objects mid) refl
goes_step s sound t (events.Main spec text) = (main_loads s t text, refl)
goes_step s sound t (events.End outcome spent) = same_loads s

onward : (a b c : List Load) → Goes a b → Goes b c → Goes a c
onward a b c one two = record {
  kept = λ i l is.
      let x = one.kept i l is in
      let y = two.kept i x.0 x.1 in
      let h = x.4 in
      let k = y.4 in
      (y.0, y.1, y.2 ∙ x.2, y.3 ∙ x.3, le (rank l.stage) (rank x.0.stage) (rank y.0.stage) h k);
}
  where
    le : (x y z : ℕ) → x ≤ y → y ≤ z → x ≤ z
    le x y z h k = omega arith

-- over a whole history
pub goes_after : (s : State) (es : List Entry) → IsSound s → IsLegal s es → GoOn s.table.loads (replay s es).table.loads
goes_after s [] sound h = stay s.table.loads
goes_after s (e ∷ es) sound h =
    onward s.table.loads (step s e.thread e.event).1.table.loads (replay s (e ∷ es)).table.loads
    (goes_step s sound e.thread e.event).0
    (goes_after (step s e.thread e.event).1 es (sound_step s sound e.thread e.event h.0) h.2)

-- no event changes the rounds
pub same_rounds : (s : State) (es : List Entry) → IsSound s → IsLegal s es → (replay s es).rounds ≡ s.rounds
same_rounds s [] sound h = refl
same_rounds s (e ∷ es) sound h = same_rounds (step s e.thread e.event).1 es (sound_step s sound e.thread e.event h.0) h.2 ∙ (goes_step s sound e.thread e.event).1
