-- Which events make loads.
use Rattle.std.proofs.Common.{◌≡◌, ◌⊎◌, ℕ, ◌+◌, arith, Bool, false, ◌&&◌, List, [], ◌∷◌, ◌++◌, length, Option, Some, None, refl, ap, ◌∙◌, inl, inr}
use Rattle.std.specs.Prelude.{slice_get, not, nat_lt}
use Rattle.std.specs.FinMap.{get}
use Rattle.std.proofs.lemmas.List.{map-append}
use Rattle.py_value.specs.declared.value.ModRef.{ModRef}
use Rattle.py_value.specs.declared.value.Value.{Value}
use Rattle.spec_core.specs.Names.{parent_of}
use Rattle.spec_core.specs.declared.spec.Spec.{Spec}
use Rattle.machine_events.specs.declared.module.Slot.{Slot}
use Rattle.machine_events.specs.declared.module.Slot.TheVariants as slots
use Rattle.machine_events.specs.declared.event.Event.{Event}
use Rattle.machine_events.specs.declared.event.Event.TheVariants as events
use Rattle.machine_events.specs.declared.event.Entry.{Entry}
use Rattle.machine_events.specs.declared.event.Reply.{Reply}
use Rattle.module_lock.specs.Table.{is_free, owns}
use Rattle.module_table.specs.Lists.{changed}
use Rattle.module_table.specs.Vars.{var_of}
use Rattle.module_table.specs.declared.table.Table.{Table}
use Rattle.module_table.specs.declared.module.Object.{Object}
use Rattle.module_table.specs.declared.module.Load.{Load}
use Rattle.module_table.specs.declared.module.Reload.{Reload}
use Rattle.module_table.specs.declared.module.LoadKind.{LoadKind}
use Rattle.module_table.specs.declared.module.LoadKind.TheVariants as load_kinds
use Rattle.module_table.specs.declared.module.LoadStage.TheVariants as stages
use Rattle.module_table.specs.declared.module.Phase.{Phase}
use Rattle.module_table.specs.declared.module.Phase.TheVariants as phases
use Rattle.machine_spec.specs.declared.state.State.{State}
use Rattle.machine_spec.specs.Parts.{is_initialising, is_built_in, is_built_in_place, is_main}
use Rattle.machine_spec.specs.Waits.{ask_object, ask_slot}
use Rattle.machine_spec.specs.Bodies.{bound, bind_under, bind_parent, good_entry, finish_entry, finish_object, finish_load}
use Rattle.machine_spec.specs.Variables.{sleeping, set_on, del_found, del_on}
use Rattle.machine_spec.specs.Cache.{is_fixed}
use Rattle.machine_spec.specs.Reloads.{is_entry, enter, reload_begin_on, reload_take, reload_leave, reload_end_on}
use Rattle.machine_spec.specs.Lazies.{open_lazy, rouse_lazy, rouse_phase, rouse_on}
use Rattle.machine_spec.specs.Opening.{script_loads}
use Rattle.machine_spec.specs.Step.{step}
use Rattle.machine_spec.specs.Legal.{replay}
use Rattle.machine_laws.specs.Begun.{Begun, first}
use Rattle.machine_laws.proofs.Counts.{bit}
use Rattle.machine_laws.proofs.Same.{either, kept_map}
use Rattle.machine_allows.specs.Loads.{kinds_of, MadeBy, mains}

abbrev Same : State → Reply × State → Type 0
Same s p = kinds_of p.1.table.loads ≡ kinds_of s.table.loads

-- one load changes, but not its kind
changed_same : (f : Load → Load) → ((l : Load) → (f l).kind ≡ l.kind) → (ls : List Load) (i : ℕ) → kinds_of (changed f ls i) ≡ kinds_of ls
changed_same f same ls i = kept_map (λ (l : Load). l.kind) f same ls i

module _ (s : State) (t : ℕ) where
  asks_object : (m : ModRef) (o : Option Object) → Same s (ask_object s t m o)
  asks_object m None = refl
  asks_object m (Some o) = either (Same s) (is_initialising o.phase && not (owns s.locks t o.spec.name)) _ _ refl refl

  asks_slot : (n : List ℕ) (missing : Reply × State) → Same s missing → (slot : Option Slot) → Same s (ask_slot s t n missing slot)
  asks_slot n missing h None = either (Same s) (is_free s.locks t n) _ _ h refl
  asks_slot n missing h (Some slots.Absent) = either (Same s) (is_free s.locks t n) _ _ h refl
  asks_slot n missing h (Some slots.Halted) = refl
  asks_slot n missing h (Some (slots.Module m)) = asks_object m (slice_get s.table.objects m.mid)

  sets_on : (mid : ℕ) (x : List ℕ) (v : Value) (raw : Bool) (o : Option Object) → Same s (set_on s t mid x v raw o)
  sets_on mid x v raw None = refl
  sets_on mid x v raw (Some o) = either (Same s) (is_built_in o.spec.kind) _ _ refl (either (Same s) (sleeping s t raw o) _ _ refl refl)

  deletes_found : (mid : ℕ) (x : List ℕ) (o : Object) (v : Option Value) → Same s (del_found s mid x o v)
  deletes_found mid x o None = refl
  deletes_found mid x o (Some v) = refl

  deletes_on : (mid : ℕ) (x : List ℕ) (raw : Bool) (o : Option Object) → Same s (del_on s t mid x raw o)
  deletes_on mid x raw None = refl
  deletes_on mid x raw (Some o) = either (Same s) (is_built_in o.spec.kind) _ _ refl (either (Same s) (sleeping s t raw o) _ _ refl (deletes_found mid x o (var_of o.vars x)))

  bound_same : (n : List ℕ) (entry parent : Slot) → (bound s n entry parent).table.loads ≡ s.table.loads
  bound_same n entry slots.Absent = refl
  bound_same n entry slots.Halted = refl
  bound_same n entry (slots.Module m) = either (λ (z : State). z.table.loads ≡ s.table.loads) (is_built_in_place m.place) _ _ refl refl

  under_same : (n : List ℕ) (entry : Slot) (parent : Option Slot) → (bind_under s n entry parent).1.table.loads ≡ s.table.loads
  under_same n entry None = refl
  under_same n entry (Some parent) = bound_same n entry parent

  parent_same : (n : List ℕ) (entry : Slot) (parent : Option (List ℕ)) → (bind_parent s n entry parent).1.table.loads ≡ s.table.loads
  parent_same n entry None = refl
  parent_same n entry (Some parent) = under_same n entry (get s.table.cache parent)

  good_same : (kind : LoadKind) (n : List ℕ) (entry : Option Slot) → (good_entry s kind n entry).1.table.loads ≡ s.table.loads
  good_same load_kinds.Plain n None = refl
  good_same load_kinds.Plain n (Some entry) = parent_same n entry (parent_of n)
  good_same load_kinds.Main n entry = refl
  good_same load_kinds.Lazy n entry = refl
  good_same load_kinds.Reload n entry = refl

  entry_same : (kind : LoadKind) (good : Bool) (n : List ℕ) → (finish_entry s kind good n).1.table.loads ≡ s.table.loads
  entry_same kind good n = either (λ (p : Reply × State). p.1.table.loads ≡ s.table.loads) good _ _ (good_same kind n (get s.table.cache n)) refl

  finishes_object : (load : ℕ) (good : Bool) (l : Load) (o : Option Object) → Same s (finish_object s t load good l o)
  finishes_object load good l None = refl
  finishes_object load good l (Some o) =
      let p : Reply × State = finish_entry s l.kind good o.spec.name in
      changed_same (λ l. record l { stage = stages.Ended }) (λ l. refl) p.1.table.loads load ∙ ap kinds_of (entry_same l.kind good o.spec.name)

  finishes : (load : ℕ) (good : Bool) (l : Option Load) → Same s (finish_load s t load good l)
  finishes load good None = refl
  finishes load good (Some l) = finishes_object load good l (slice_get s.table.objects l.mid)

  enters : (mid : ℕ) (n : List ℕ) (r : Option Reload) → Same s (enter s t mid n r)
  enters mid n None = refl
  enters mid n (Some r) = refl

  begins : (mid : ℕ) (raw : Bool) (o : Option Object) → Same s (reload_begin_on s t mid raw o)
  begins mid raw None = refl
  begins mid raw (Some o) =
      either (Same s) (is_built_in o.spec.kind) _ _ refl
      (either (Same s) (sleeping s t raw o) _ _ refl (either (Same s) (is_entry mid (get s.table.cache o.spec.name)) _ _ (enters mid o.spec.name (get s.table.reloading o.spec.name)) refl))

  leaves : (n : List ℕ) (load : Option ℕ) → Same s (reload_leave s t n load)
  leaves n None = refl
  leaves n (Some load) = changed_same (λ l. record l { stage = stages.Ended }) (λ l. refl) s.table.loads load

  ends_again : (load : Option ℕ) (o : Option Object) → Same s (reload_end_on s t load o)
  ends_again load None = refl
  ends_again load (Some o) = leaves o.spec.name load

  opens_lazy : (mid : ℕ) (n : List ℕ) (load : ℕ) (l : Option Load) → Same s (open_lazy s t mid n load l)
  opens_lazy mid n load None = refl
  opens_lazy mid n load (Some l) = changed_same (λ l. record l { stage = stages.Open; thread = t }) (λ l. refl) s.table.loads load

  rouses_lazy : (mid : ℕ) (n : List ℕ) (load : Option ℕ) → Same s (rouse_lazy s t mid n load)
  rouses_lazy mid n None = refl
  rouses_lazy mid n (Some load) = either (Same s) (is_free s.locks t n) _ _ (opens_lazy mid n load (slice_get s.table.loads load)) refl

  rouses_phase : (mid : ℕ) (o : Object) (phase : Phase) → Same s (rouse_phase s t mid o phase)
  rouses_phase mid o phases.Ready = refl
  rouses_phase mid o phases.Initialising = either (Same s) (owns s.locks t o.spec.name) _ _ refl refl
  rouses_phase mid o phases.Lazy = rouses_lazy mid o.spec.name o.load

  rouses_on : (mid : ℕ) (o : Option Object) → Same s (rouse_on s t mid o)
  rouses_on mid None = refl
  rouses_on mid (Some o) = rouses_phase mid o o.phase

  abbrev Made : LoadKind → Reply × State → Type 0
  Made kind p = (kinds_of p.1.table.loads ≡ kinds_of s.table.loads) ⊎ (kinds_of p.1.table.loads ≡ kinds_of s.table.loads ++ kind ∷ [])

  takes_again : (mid : ℕ) (spec : Spec) (text : List ℕ) → Made load_kinds.Reload (reload_take s t mid spec text)
  takes_again mid spec text =
      either (Made load_kinds.Reload) (is_free s.locks t spec.name) _ _
      (either (Made load_kinds.Reload) (is_entry mid (get s.table.cache spec.name)) _ _ (inr (map-append (λ (l : Load). l.kind) s.table.loads _)) (inl refl))
      (inl refl)

-- an event leaves the loads as they are, but for Add, AddLazy and ReloadTake
pub made_step : (s : State) (t : ℕ) (e : Event) → MadeBy e (kinds_of s.table.loads) (kinds_of (step s t e).1.table.loads)
made_step s t (events.Ask n) = asks_slot s t n _ refl (get s.table.cache n)
made_step s t (events.Take n) = asks_slot s t n _ refl (get s.table.cache n)
made_step s t events.Wake = refl
made_step s t (events.Add spec text) = inr (map-append (λ (l : Load). l.kind) s.table.loads _)
made_step s t (events.Finish load good) = finishes s t load good (slice_get s.table.loads load)
made_step s t (events.Release n) = refl
made_step s t (events.GetVar mid x raw) = refl
made_step s t (events.SetVar raw mid x v) = sets_on s t mid x v raw (slice_get s.table.objects mid)
made_step s t (events.DelVar mid x raw) = deletes_on s t mid x raw (slice_get s.table.objects mid)
made_step s t (events.Names mid) = refl
made_step s t (events.Source load) = refl
made_step s t (events.Print text) = refl
made_step s t events.PathGet = refl
made_step s t (events.PathAdd at v) = either (λ (table : Table). kinds_of table.loads ≡ kinds_of s.table.loads) (nat_lt (length s.table.path) 4096) _ _ refl refl
made_step s t (events.DirGet dir part) = refl
made_step s t (events.DirSet dir listing) = refl
made_step s t events.Invalidate = refl
made_step s t (events.NsGet mid) = refl
made_step s t (events.NsSet mid state) = refl
made_step s t (events.TabGet n) = refl
made_step s t (events.TabSet n slot) = either (Same s) (is_fixed n) _ _ refl refl
made_step s t (events.TabDel n) = either (Same s) (is_fixed n) _ _ refl refl
made_step s t (events.ReloadBegin mid raw) = begins s t mid raw (slice_get s.table.objects mid)
made_step s t (events.ReloadTake mid spec text) = takes_again s t mid spec text
made_step s t (events.ReloadEnd mid load) = ends_again s t load (slice_get s.table.objects mid)
made_step s t (events.AddLazy spec text) = inr (map-append (λ (l : Load). l.kind) s.table.loads _)
made_step s t (events.Rouse mid) = rouses_on s t mid (slice_get s.table.objects mid)
made_step s t (events.Main spec text) = changed_same (λ l. record l { text = text }) (λ l. refl) s.table.loads t
made_step s t (events.End outcome spent) = refl

-- Loads of scripts.

mains_push : (ks : List LoadKind) (k : LoadKind) → is_main k ≡ false → mains (ks ++ k ∷ []) ≡ mains ks
mains_push [] k h = let none : bit (is_main k) ≡ 0 = ap bit h in omega arith
mains_push (x ∷ ks) k h = let rest = mains_push ks k h in ap (λ n. bit (is_main x) + n) rest

mains_made : (ks ks' : List LoadKind) (k : LoadKind) → is_main k ≡ false → (ks' ≡ ks) ⊎ (ks' ≡ ks ++ k ∷ []) → mains ks' ≡ mains ks
mains_made ks ks' k h (inl same) = ap mains same
mains_made ks ks' k h (inr more) = ap mains more ∙ mains_push ks k h

mains_by : (e : Event) (ks ks' : List LoadKind) → MadeBy e ks ks' → mains ks' ≡ mains ks
mains_by (events.Add spec text) ks ks' h = mains_made ks ks' load_kinds.Plain refl h
mains_by (events.AddLazy spec text) ks ks' h = mains_made ks ks' load_kinds.Lazy refl h
mains_by (events.ReloadTake mid spec text) ks ks' h = mains_made ks ks' load_kinds.Reload refl h
mains_by (events.Ask n) ks ks' h = ap mains h
mains_by (events.Take n) ks ks' h = ap mains h
mains_by events.Wake ks ks' h = ap mains h
mains_by (events.Finish load good) ks ks' h = ap mains h
mains_by (events.Release n) ks ks' h = ap mains h
mains_by (events.GetVar mid x raw) ks ks' h = ap mains h
mains_by (events.SetVar raw mid x v) ks ks' h = ap mains h
mains_by (events.DelVar mid x raw) ks ks' h = ap mains h
mains_by (events.Names mid) ks ks' h = ap mains h
mains_by (events.Source load) ks ks' h = ap mains h
mains_by (events.Print text) ks ks' h = ap mains h
mains_by events.PathGet ks ks' h = ap mains h
mains_by (events.PathAdd at v) ks ks' h = ap mains h
mains_by (events.DirGet dir part) ks ks' h = ap mains h
mains_by (events.DirSet dir listing) ks ks' h = ap mains h
mains_by events.Invalidate ks ks' h = ap mains h
mains_by (events.NsGet mid) ks ks' h = ap mains h
mains_by (events.NsSet mid state) ks ks' h = ap mains h
mains_by (events.TabGet n) ks ks' h = ap mains h
mains_by (events.TabSet n slot) ks ks' h = ap mains h
mains_by (events.TabDel n) ks ks' h = ap mains h
mains_by (events.ReloadBegin mid raw) ks ks' h = ap mains h
mains_by (events.ReloadEnd mid load) ks ks' h = ap mains h
mains_by (events.Rouse mid) ks ks' h = ap mains h
mains_by (events.Main spec text) ks ks' h = ap mains h
mains_by (events.End outcome spent) ks ks' h = ap mains h

mains_along : (s : State) (es : List Entry) → mains (kinds_of (replay s es).table.loads) ≡ mains (kinds_of s.table.loads)
mains_along s [] = refl
mains_along s (e ∷ es) =
    mains_along (step s e.thread e.event).1 es
    ∙ mains_by e.event (kinds_of s.table.loads) (kinds_of (step s e.thread e.event).1.table.loads) (made_step s e.thread e.event)

mains_first : (k : ℕ) (texts : List (List ℕ)) → mains (kinds_of (script_loads k texts)) ≡ length texts
mains_first k [] = refl
mains_first k (text ∷ texts) = let rest = mains_first (k + 1) texts in omega arith

pub mains_are : (b : Begun) (history : List Entry) → mains (kinds_of (replay (first b) history).table.loads) ≡ length b.scripts
mains_are b history = mains_along (first b) history ∙ mains_first 0 b.texts ∙ b.as_many
