-- The reload of a module is safe: it is held from ReloadBegin to ReloadEnd, with its load from ReloadTake on.
use Rattle.std.proofs.Common.{◌≡◌, inl, ℕ, zero, suc, Bool, true, false, List, [], ◌∷◌, codes, Option, Some, None, refl, sym, subst}
use Rattle.base_types.specs.Path.{Path}
use Rattle.py_value.specs.declared.value.ModRef.{ModRef}
use Rattle.py_value.specs.declared.value.NsState.{NsState}
use Rattle.py_value.specs.declared.value.Value.{Value, out-Value}
use Rattle.py_value.specs.declared.value.Value.TheOpen.{Value-F}
use Rattle.py_value.specs.declared.value.Value.TheVariants as values
use Rattle.spec_core.specs.Identifiers.{is_dotted}
use Rattle.spec_core.specs.Names.{parent_of}
use Rattle.spec_core.specs.declared.spec.Spec.{Spec}
use Rattle.spec_core.specs.declared.spec.SpecKind.{SpecKind}
use Rattle.spec_core.specs.declared.spec.SpecKind.TheVariants as kinds
use Rattle.tree_files.specs.declared.tree.Stamp.{Stamp}
use Rattle.tree_files.specs.declared.tree.Stamp.TheVariants as stamps
use Rattle.machine_events.specs.declared.event.Event.{Event}
use Rattle.machine_events.specs.declared.event.Event.TheVariants as e
use Rattle.machine_events.specs.declared.event.Reply.{Reply}
use Rattle.machine_events.specs.declared.event.Reply.TheVariants as r
use Rattle.machine_events.specs.declared.module.Slot.{Slot}
use Rattle.machine_events.specs.declared.module.Slot.TheVariants as slots
use Rattle.machine_shown.specs.Holdings.{Reloading}
use Rattle.machine_shown.specs.Shown.{Shown, Running, shown_more, holds, does, slot_modules}
use Rattle.machine_shown.specs.Knowing.{Has, HasAll, KnowsItems, MayAdd, Enough}
use Rattle.path_finder.specs.Entries as entries
use Rattle.path_finder.specs.declared.words.Found.{Found}
use Rattle.path_finder.specs.declared.words.Found.TheVariants as found
use Rattle.meaning_script.specs.Searches.{IsNamed}
use Rattle.meaning_runs.specs.Runs.{Safe}
use Rattle.meaning_state.specs.declared.fault.Fault.{Fault}
use Rattle.meaning_state.specs.declared.fault.Fault.TheVariants as fault
use Rattle.meaning_state.specs.declared.flow.Flow.{Flow}
use Rattle.meaning_state.specs.declared.flow.Flow.TheVariants.{Went, Left}
use Rattle.meaning_state.specs.declared.thread.State.{State}
use Rattle.meaning_script.specs.Pieces.{Piece, Onward, most, calls, fails, raise, done, after_reply}
use Rattle.meaning_script.specs.Imports.{Inside, roused, path_of, answers, opens}
use Rattle.meaning_script.specs.Reload.{stops, stops_and, reloaded_entry, kept, ended, ends, keeps_space, Finding, HasText, HasPortions, spec_found, text_found, loads_again, took, retakes, has_source, reads_source, locates, discovers, finds, on_search_path, on_path, on_parent_path, on_parent, on_entry, reads_path, begun, begin_came, begins, reloads}
use Rattle.meaning_safety.specs.Known.{Knows, KnowsFlow}
use Rattle.meaning_safety.proofs.Growth.{Grows, Later, fits_refl, grows_more, later_more, items_grow, state_grows, flow_grows}
use Rattle.meaning_safety.proofs.Given.{has_number, all_here, path_answered, list_items}
use Rattle.meaning_safety.proofs.Pieces.{SafeOn, SafeAt, SafeModules, on_later, goes_safe, fails_safe, pick_safe, calls_safe, behind}
use Rattle.meaning_safety.proofs.Values.{nothing_known}
use Rattle.meaning_safety.proofs.Within.{answers_safe, WithinAt, Within, stopped_first, reload_ended, reload_loaded, holds_first, steady_within, flows_within, searches_within, waits_safe, after}
use Rattle.meaning_safety.proofs.Imports.{SafeInside, roused_safe, path_of_safe}

-- ---- its end

module _ (s : Shown) (m : ModRef) where
  -- before its body
  abbrev Begun : Piece → Type 0
  Begun p = Within s (Reloading m.mid None) p

  abbrev BegunAt : Shown → Piece → Type 0
  BegunAt s' p = WithinAt s (Reloading m.mid None) s' p

  stops_and_safe : (s' : Shown) (flow : Flow) → KnowsFlow s' flow → BegunAt s' (stops_and m flow)
  stops_and_safe s' flow known f st knows k safe =
      let event : Event = e.ReloadEnd m.mid None in
      calls_safe s' event (λ _. k flow st) f.runs (f.runs, holds_first s s' (Reloading m.mid None) f) (λ reply. f.runs)
      (λ reply. let next : Shown = shown_more s' (event, reply) in
      let g : Grows s' next = grows_more s' event reply in
      safe next (later_more s s' (Reloading m.mid None ∷ s.held) s.held event reply f (stopped_first m.mid s.held) f.runs) flow (flow_grows s' next g flow known) st (state_grows s' next g st knows))

  stops_safe : (f : Fault) → Begun (stops m f)
  stops_safe f s' = stops_and_safe s' (raise f) tt

entry_safe : (s : Shown) (slot : Slot) → HasAll s.modules (slot_modules slot) → SafeAt s (reloaded_entry slot)
entry_safe s (slots.Module found) h = answers_safe s found h.0
entry_safe s slots.Halted h = goes_safe s (Went values.Nothing) (nothing_known s)
entry_safe s slots.Absent h = fails_safe fault.NotInProfile s

kept_safe : (s : Shown) (slot : Slot) (flow : Flow) → HasAll s.modules (slot_modules slot) → KnowsFlow s flow → SafeAt s (kept slot flow)
kept_safe s slot (Went v) h known = entry_safe s slot h
kept_safe s slot (Left leave) h known = goes_safe s (Left leave) known

ended_safe : (m : ModRef) (s : Shown) (event : Event) (flow : Flow) (reply : Reply) → KnowsFlow (shown_more s (event, reply)) flow → SafeAt (shown_more s (event, reply)) (ended m flow reply)
ended_safe m s event flow (r.Kept slot) known = kept_safe (shown_more s (event, r.Kept slot)) slot flow (all_here (slot_modules slot) s.modules) known
ended_safe m s event flow r.Lost known = fails_safe (fault.Lost m.name) (shown_more s (event, r.Lost))
ended_safe m s event flow reply known = fails_safe fault.NotInProfile (shown_more s (event, reply))

ends_safe : (s : Shown) (m : ModRef) (load : ℕ) (s' : Shown) (flow : Flow) → KnowsFlow s' flow → WithinAt s (Reloading m.mid (Some load)) s' (ends m load flow)
ends_safe s m load s' flow known f st knows k safe =
    let event : Event = e.ReloadEnd m.mid (Some load) in
    calls_safe s' event (λ reply. ended m flow reply st k) f.runs (f.runs, holds_first s s' (Reloading m.mid (Some load)) f) (λ reply. f.runs)
    (λ reply. let next : Shown = shown_more s' (event, reply) in
    let g : Grows s' next = grows_more s' event reply in
    ended_safe m s' event flow reply (flow_grows s' next g flow known) f.runs st (state_grows s' next g st knows) k
    (on_later s next k (later_more s s' (Reloading m.mid (Some load) ∷ s.held) s.held event reply f (reload_ended m.mid load s.held) f.runs) safe))

-- ---- its lock, and its body

-- what was found may be loaded in place of the module
abbrev Fitting : Shown → ModRef → Finding → Type 0
Fitting s m (HasText spec text) = (spec.name ≡ m.name) × MayAdd spec.kind text
Fitting s m (HasPortions path portions) = KnowsItems s path

fitting_grows : (s s' : Shown) → Grows s s' → (m : ModRef) (finding : Finding) → Fitting s m finding → Fitting s' m finding
fitting_grows s s' g m (HasText spec text) h = h
fitting_grows s s' g m (HasPortions path portions) h = items_grow s s' g path h

may_take : (s : Shown) (m : ModRef) (finding : Finding) → Has s.held (Reloading m.mid None) → Has s.modules m → Fitting s m finding
    → Enough s (e.ReloadTake m.mid (spec_found m finding) (text_found finding))
may_take s m (HasText spec text) held has h = (held, (m, has, refl, sym h.0), h.1)
may_take s m (HasPortions path portions) held has h = (held, (m, has, refl, refl), refl)

module _ (inside : Inside) (safe_inside : SafeInside inside) (m : ModRef) (epoch : ℕ) where
  keeps_safe : (s : Shown) (path : List Value) (portions : List (List ℕ)) (load mid : ℕ) (s' : Shown) → Has s'.namespaces mid → KnowsItems s' path
      → WithinAt s (Reloading m.mid (Some load)) s' (keeps_space m epoch path portions load mid)
  keeps_safe s path portions load mid s' has known f =
      let kept_state : NsState = record { parent_path = path; epoch = epoch; portions = portions } in
      steady_within s (Reloading m.mid (Some load)) s' (e.NsSet mid kept_state) (λ _. ends m load done) (f.runs, (has, known)) (λ reply. refl) (λ reply. f.runs)
      (λ reply. let next : Shown = shown_more s' (e.NsSet mid kept_state, reply) in ends_safe s m load next done (nothing_known next)) f

  module _ (s : Shown) (s' : Shown) (f : Later s s' (Reloading m.mid None ∷ s.held)) (has : Has s'.modules m) (st : State) (knows : Knows s' st) (k : Onward) (safe : SafeOn s k) where
    -- with the load
    loads_again_safe : (finding : Finding) → Fitting s' m finding → (load mid : ℕ)
        → Safe (shown_more s' (e.ReloadTake m.mid (spec_found m finding) (text_found finding), r.Load load mid)) (loads_again inside m epoch finding load mid st k)
    loads_again_safe (HasText spec text) h load mid =
        let event : Event = e.ReloadTake m.mid spec text in
        let next : Shown = shown_more s' (event, r.Load load mid) in
        let g : Grows s' next = grows_more s' event (r.Load load mid) in
        let loading : Later s next (Reloading m.mid (Some load) ∷ s.held) =
        later_more s s' (Reloading m.mid None ∷ s.held) (Reloading m.mid (Some load) ∷ s.held) event (r.Load load mid) f (reload_loaded m.mid load s.held) f.runs in
        flows_within s (Reloading m.mid (Some load)) next (inside.body m.mid load m.name text) (λ flow. ends m load flow)
        (safe_inside.body next m.mid load m.name text (has_number next m (g.modules m has)) (inl refl))
        (λ later g' flow known. ends_safe s m load later flow known) loading st (state_grows s' next g st knows) k safe
    loads_again_safe (HasPortions path portions) h load mid =
        let event : Event = e.ReloadTake m.mid (spec_found m (HasPortions path portions)) [] in
        let next : Shown = shown_more s' (event, r.Load load mid) in
        let g : Grows s' next = grows_more s' event (r.Load load mid) in
        let loading : Later s next (Reloading m.mid (Some load) ∷ s.held) =
        later_more s s' (Reloading m.mid None ∷ s.held) (Reloading m.mid (Some load) ∷ s.held) event (r.Load load mid) f (reload_loaded m.mid load s.held) f.runs in
        keeps_safe s path portions load mid next (inl refl) (items_grow s' next g path h) loading st (state_grows s' next g st knows) k safe

    -- what the lock was not taken for ends the reload
    stopped_safe : (event : Event) (reply : Reply) (fault : Fault) → holds event reply (Reloading m.mid None ∷ s.held) ≡ Reloading m.mid None ∷ s.held → does event reply s'.doing ≡ Running
        → Safe (shown_more s' (event, reply)) (stops m fault st k)
    stopped_safe event reply fault same runs =
        let next : Shown = shown_more s' (event, reply) in
        stops_safe s m fault next (later_more s s' (Reloading m.mid None ∷ s.held) (Reloading m.mid None ∷ s.held) event reply f same runs) st (state_grows s' next (grows_more s' event reply) st knows) k safe

    -- a piece that is safe again later
    abbrev Again : Piece → Type 0
    Again p = (later : Shown) → Grows s' later → WithinAt s (Reloading m.mid None) later p

    took_safe : (again : Piece) → Again again → (finding : Finding) → Fitting s' m finding → (reply : Reply)
        → Safe (shown_more s' (e.ReloadTake m.mid (spec_found m finding) (text_found finding), reply)) (after_reply reply (took inside again m epoch finding reply st k))
    took_safe again more finding h (r.Load load mid) = (f.runs, loads_again_safe finding h load mid)
    took_safe again more finding h (r.Wait l) =
        waits_safe s (Reloading m.mid None ∷ s.held) s' (e.ReloadTake m.mid (spec_found m finding) (text_found finding)) l again f refl refl st knows k
        (λ later g f' st' knows'. more later g f' st' knows' k safe)
    took_safe again more finding h r.Deadlock = (f.runs, stopped_safe (e.ReloadTake m.mid (spec_found m finding) (text_found finding)) r.Deadlock (fault.Deadlock m.name) refl f.runs)
    took_safe again more finding h r.NotThere = (f.runs, stopped_safe (e.ReloadTake m.mid (spec_found m finding) (text_found finding)) r.NotThere (fault.NoLongerCached m.name) refl f.runs)
    took_safe again more finding h reply = (f.runs, stopped_safe (e.ReloadTake m.mid (spec_found m finding) (text_found finding)) reply fault.NotInProfile refl f.runs)

  retakes_safe : (turns : ℕ) (finding : Finding) (s s' : Shown) → Has s'.modules m → Fitting s' m finding → WithinAt s (Reloading m.mid None) s' (retakes inside turns m epoch finding)
  retakes_safe zero finding s s' has h = λ f st knows k safe. (f.runs, stops_safe s m fault.NotInProfile s' f st knows k safe)
  retakes_safe (suc turns) finding s s' has h = λ f st knows k safe. (
    f.runs,
    (
      (f.runs, may_take s' m finding (holds_first s s' (Reloading m.mid None) f) has h),
      took_safe s s' f has st knows k safe (retakes inside turns m epoch finding)
          (λ later g. retakes_safe turns finding s later (g.modules m has) (fitting_grows s' later g m finding h)) finding h,
    ),
  )

  -- ---- its search

  has_source_safe : (spec : Spec) → spec.name ≡ m.name → ((text : List ℕ) → MayAdd spec.kind text) → (s s' : Shown) → Has s'.modules m → (text : Option (List ℕ))
      → WithinAt s (Reloading m.mid None) s' (has_source inside m epoch spec text)
  has_source_safe spec named may s s' has None = stops_safe s m fault.TooLong s'
  has_source_safe spec named may s s' has (Some text) = retakes_safe most (HasText spec text) s s' has (named, may text)

  abbrev opened : Spec → Path → Stamp → Piece
  opened spec path at st k = opens path (stops m (fault.NoSpec m.name) st k) (λ text. has_source inside m epoch spec text st k) at

  opens_safe : (spec : Spec) → spec.name ≡ m.name → ((text : List ℕ) → MayAdd spec.kind text) → (s s' : Shown) → Has s'.modules m → (path : Path) (at : Stamp)
      → WithinAt s (Reloading m.mid None) s' (opened spec path at)
  opens_safe spec named may s s' has path (stamps.File size) = λ f st knows k safe. (f.runs, (f.runs, λ text. has_source_safe spec named may s s' has text f st knows k safe))
  opens_safe spec named may s s' has path (stamps.Dir time) = stops_safe s m (fault.NoSpec m.name) s'
  opens_safe spec named may s s' has path stamps.Absent = stops_safe s m (fault.NoSpec m.name) s'

  reads_source_safe : (spec : Spec) → spec.name ≡ m.name → ((text : List ℕ) → MayAdd spec.kind text) → (s s' : Shown) → Has s'.modules m → (path : Option Path)
      → WithinAt s (Reloading m.mid None) s' (reads_source inside m epoch spec path)
  reads_source_safe spec named may s s' has None = stops_safe s m (fault.NoSpec m.name) s'
  reads_source_safe spec named may s s' has (Some path) = λ f st knows k safe. (f.runs, λ at. opens_safe spec named may s s' has path at f st knows k safe)

  any_text : (spec : Spec) (kind : SpecKind) → spec.kind ≡ kind → ((text : List ℕ) → MayAdd kind text) → (text : List ℕ) → MayAdd spec.kind text
  any_text spec kind is h text = subst (λ (other : SpecKind). MayAdd other text) (sym is) (h text)

  locates_safe : (spec : Spec) → spec.name ≡ m.name → (s s' : Shown) → Has s'.modules m → (kind : SpecKind) → spec.kind ≡ kind → WithinAt s (Reloading m.mid None) s' (locates inside m epoch spec kind)
  locates_safe spec named s s' has (kinds.Source file) is = reads_source_safe spec named (any_text spec (kinds.Source file) is (λ text. tt)) s s' has (entries.path_of file)
  locates_safe spec named s s' has (kinds.Package file path) is = reads_source_safe spec named (any_text spec (kinds.Package file path) is (λ text. tt)) s s' has (entries.path_of file)
  locates_safe spec named s s' has kind is = stops_safe s m fault.NotInProfile s'

  discovers_safe : (path : List Value) (s s' : Shown) → Has s'.modules m → KnowsItems s' path → (answer : Option Found) → IsNamed m.name answer
      → WithinAt s (Reloading m.mid None) s' (discovers inside m epoch path answer)
  discovers_safe path s s' has known None named = stops_safe s m (fault.NoSpec m.name) s'
  discovers_safe path s s' has known (Some (found.Spec spec)) named = locates_safe spec named s s' has spec.kind refl
  discovers_safe path s s' has known (Some (found.Portions portions)) named = retakes_safe most (HasPortions path portions) s s' has known

  finds_safe : (path : List Value) (s s' : Shown) → Has s'.modules m → KnowsItems s' path → WithinAt s (Reloading m.mid None) s' (finds inside m epoch path)
  finds_safe path s s' has known =
      searches_within s (Reloading m.mid None) s' m.name path (λ answer. discovers inside m epoch path answer)
      (λ later g answer named. discovers_safe path s later (g.modules m has) (items_grow s' later g path known) answer named)

  -- ---- its path

  on_search_path_safe : (s s' : Shown) → Has s'.modules m → (reply : Reply) → WithinAt s (Reloading m.mid None) (shown_more s' (e.PathGet, reply)) (on_search_path inside m epoch reply)
  on_search_path_safe s s' has (r.Path items) =
      let next : Shown = shown_more s' (e.PathGet, r.Path items) in
      finds_safe items s next ((grows_more s' e.PathGet (r.Path items)).modules m has) (path_answered s' e.PathGet items)
  on_search_path_safe s s' has reply = stops_safe s m fault.NotInProfile (shown_more s' (e.PathGet, reply))

  on_parent_path_safe : (parent : ModRef) (s s' : Shown) → Has s'.modules m → (flow : Flow) → KnowsFlow s' flow → WithinAt s (Reloading m.mid None) s' (on_parent_path inside m epoch parent flow)
  on_parent_path_safe parent s s' has (Went v) known = at (out-Value v) refl
    where
      at : (layer : Value-F Value) → out-Value v ≡ layer → WithinAt s (Reloading m.mid None) s' (on_path inside m epoch parent layer)
      at (Value-F.List items) is = finds_safe items s s' has (list_items s' v known.0 items is)
      at (Value-F.Bool init) is = stops_safe s m (fault.NoAttribute init parent.name (codes "__path__")) s'
      at layer is = stops_safe s m fault.NotInProfile s'
  on_parent_path_safe parent s s' has (Left leave) known = stops_and_safe s m s' (Left leave) known

  on_entry_safe : (p : List ℕ) (s s' : Shown) → Has s'.modules m → (reply : Reply) → WithinAt s (Reloading m.mid None) (shown_more s' (e.TabGet p, reply)) (on_entry inside m epoch p reply)
  on_entry_safe p s s' has (r.Slot slot) = at slot
    where
      at : (slot : Slot) → WithinAt s (Reloading m.mid None) (shown_more s' (e.TabGet p, r.Slot slot)) (on_parent inside m epoch p slot)
      at slots.Absent = stops_safe s m (fault.ParentNotCached p) (shown_more s' (e.TabGet p, r.Slot slots.Absent))
      at slots.Halted = stops_safe s m fault.NothingHasNoPath (shown_more s' (e.TabGet p, r.Slot slots.Halted))
      at (slots.Module parent) =
          let next : Shown = shown_more s' (e.TabGet p, r.Slot (slots.Module parent)) in
          let has' : Has next.modules m = (grows_more s' (e.TabGet p) (r.Slot (slots.Module parent))).modules m has in
          flows_within s (Reloading m.mid None) next (path_of inside parent) (λ flow. on_parent_path inside m epoch parent flow) (path_of_safe inside safe_inside next parent (inl refl))
          (λ later g flow known. on_parent_path_safe parent s later (g.modules m has') flow known)
  on_entry_safe p s s' has reply = stops_safe s m fault.NotInProfile (shown_more s' (e.TabGet p, reply))

  reads_path_safe : (parent : Option (List ℕ)) (s s' : Shown) → Has s'.modules m → WithinAt s (Reloading m.mid None) s' (reads_path inside m epoch parent)
  reads_path_safe None s s' has f =
      steady_within s (Reloading m.mid None) s' e.PathGet (λ reply. on_search_path inside m epoch reply) (f.runs, tt) (λ reply. refl) (λ reply. f.runs) (on_search_path_safe s s' has) f
  reads_path_safe (Some p) s s' has f =
      steady_within s (Reloading m.mid None) s' (e.TabGet p) (λ reply. on_entry inside m epoch p reply) (f.runs, tt) (λ reply. refl) (λ reply. f.runs) (on_entry_safe p s s' has) f

-- ---- the whole

module _ (inside : Inside) (safe_inside : SafeInside inside) (m : ModRef) where
  -- the reload begins
  begun_safe : (raw : Bool) (s : Shown) → Has s.modules m → s.doing ≡ Running → (st : State) → Knows s st → (k : Onward) → SafeOn s k → (reply : Reply)
      → Safe (shown_more s (e.ReloadBegin m.mid raw, reply)) (begun inside m reply st k)
  begun_safe raw s has run st knows k safe (r.Begun epoch) =
      let event : Event = e.ReloadBegin m.mid raw in
      let next : Shown = shown_more s (event, r.Begun epoch) in
      let g : Grows s next = grows_more s event (r.Begun epoch) in
      reads_path_safe inside safe_inside m epoch (parent_of m.name) s next (g.modules m has)
      (later_more s s s.held (Reloading m.mid None ∷ s.held) event (r.Begun epoch) (fits_refl s run) refl run) st (state_grows s next g st knows) k safe
  begun_safe raw s has run st knows k safe (r.Busy other) =
      let event : Event = e.ReloadBegin m.mid raw in
      after s run st knows k safe event (r.Busy other) (answers other) refl run (answers_safe (shown_more s (event, r.Busy other)) other (inl refl))
  begun_safe raw s has run st knows k safe r.NotThere =
      let event : Event = e.ReloadBegin m.mid raw in
      after s run st knows k safe event r.NotThere (fails (fault.NotCached m.name)) refl run (fails_safe (fault.NotCached m.name) (shown_more s (event, r.NotThere)))
  begun_safe raw s has run st knows k safe reply =
      let event : Event = e.ReloadBegin m.mid raw in
      after s run st knows k safe event reply (fails fault.NotInProfile) refl run (fails_safe fault.NotInProfile (shown_more s (event, reply)))

  begins_raw_safe : (s : Shown) → Has s.modules m → SafeAt s (λ st k. calls (e.ReloadBegin m.mid true) (λ reply. begun inside m reply st k))
  begins_raw_safe s has run st knows k safe =
      calls_safe s (e.ReloadBegin m.mid true) (λ reply. begun inside m reply st k) run (run, has_number s m has) (λ reply. run) (begun_safe true s has run st knows k safe)

  begin_came_safe : (s : Shown) → Has s.modules m → s.doing ≡ Running → (st : State) → Knows s st → (k : Onward) → SafeOn s k → (reply : Reply)
      → Safe (shown_more s (e.ReloadBegin m.mid false, reply)) (begin_came inside false m reply st k)
  begin_came_safe s has run st knows k safe r.Sleeping =
      let event : Event = e.ReloadBegin m.mid false in
      let next : Shown = shown_more s (event, r.Sleeping) in
      after s run st knows k safe event r.Sleeping (begin_came inside false m r.Sleeping) refl run
      (behind next (roused inside m) (λ _ st' k'. calls (e.ReloadBegin m.mid true) (λ reply. begun inside m reply st' k')) (roused_safe inside safe_inside next m has)
      (λ s' g v known. begins_raw_safe s' (g.modules m has)))
  begin_came_safe s has run st knows k safe reply = begun_safe false s has run st knows k safe reply

  begins_safe : (s : Shown) → Has s.modules m → SafeAt s (begins inside m)
  begins_safe s has run st knows k safe =
      calls_safe s (e.ReloadBegin m.mid false) (λ reply. begin_came inside false m reply st k) run (run, has_number s m has) (λ reply. run) (begin_came_safe s has run st knows k safe)

pub reloads_safe : (inside : Inside) → SafeInside inside → SafeModules (reloads inside)
reloads_safe inside safe s m has = pick_safe s (is_dotted m.name) (begins inside m) (fails fault.NotInProfile) (begins_safe inside safe m s has) (fails_safe fault.NotInProfile s)
