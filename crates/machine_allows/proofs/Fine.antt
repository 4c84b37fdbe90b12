-- What an event answers names modules and loads that exist, and it keeps each value of the table naming modules of the table.
use Rattle.std.proofs.Common.{◌≡◌, ◌⊎◌, ◌<◌, ℕ, zero, suc, Bool, true, false, cond, ◌&&◌, List, [], ◌∷◌, ◌++◌, take, drop, map, length, Option, Some, None, refl, sym, ap, subst, ◌∙◌, inl, inr}
use Rattle.std.specs.Prelude.{ℤ, slice_get, slice_set, nat_eq, nat_lt, is_some, not, flat_map}
use Rattle.std.specs.List.{list_all}
use Rattle.std.specs.Cmp.Lexicographic.{pointwise, nat_list_eq_equiv, nat_list_cmp_total}
use Rattle.std.specs.FinMap.{get, get-insert, get-remove}
use Rattle.std.proofs.lemmas.Bool.{false≢true, and_parts, and_from}
use Rattle.spec_core.specs.Names.{parent_of, tail_of}
use Rattle.spec_core.specs.declared.spec.Spec.{Spec}
use Rattle.spec_core.specs.declared.spec.SpecKind.{SpecKind}
use Rattle.spec_core.specs.declared.spec.SpecKind.TheVariants as kinds
use Rattle.base_types.specs.declared.path.Listing.{Listing}
use Rattle.py_value.specs.declared.value.ModRef.{ModRef}
use Rattle.py_value.specs.declared.value.NsState.{NsState}
use Rattle.py_value.specs.declared.value.Value.{Value}
use Rattle.machine_events.specs.Modules.{module_of, place_of}
use Rattle.machine_events.specs.declared.module.Slot.{Slot}
use Rattle.machine_events.specs.declared.module.Slot.TheVariants as slots
use Rattle.machine_events.specs.declared.event.Event.{Event}
use Rattle.machine_events.specs.declared.event.Event.TheVariants as events
use Rattle.machine_events.specs.declared.event.Reply.{Reply}
use Rattle.machine_events.specs.declared.event.Reply.TheVariants as replies
use Rattle.module_lock.specs.Table.{closes, is_free, owns, got, waiting, given}
use Rattle.module_table.specs.Vars.{var_of, with_var, without_var}
use Rattle.module_table.specs.Start.{start_vars, start_ns}
use Rattle.module_table.specs.Tables.{with_unit, with_phase, with_set, with_deleted, with_ns, with_end, with_open, with_entry, without_entry, with_path_item, with_reload, without_reload, reload_opened, restarted_object, with_main, main_vars, ns_or}
use Rattle.module_table.specs.Path.{place_from}
use Rattle.module_table.specs.Lists.{changed, changed_to}
use Rattle.module_table.specs.declared.module.Object.{Object}
use Rattle.module_table.specs.declared.module.Load.{Load}
use Rattle.module_table.specs.declared.module.LoadKind.{LoadKind}
use Rattle.module_table.specs.declared.module.LoadKind.TheVariants as load_kinds
use Rattle.module_table.specs.declared.module.LoadStage.{LoadStage}
use Rattle.module_table.specs.declared.module.LoadStage.TheVariants as stages
use Rattle.module_table.specs.declared.module.Phase.{Phase}
use Rattle.module_table.specs.declared.module.Phase.TheVariants as phases
use Rattle.module_table.specs.declared.module.Reload.{Reload}
use Rattle.module_table.specs.declared.table.Table.{Table}
use Rattle.machine_spec.specs.declared.state.State.{State}
use Rattle.machine_spec.specs.Parts.{is_initialising, is_built_in, is_built_in_place, entry_of, value_of}
use Rattle.machine_spec.specs.Known.{is_module, is_module_of, is_place_of, names_modules, slot_names_module}
use Rattle.machine_spec.specs.Waits.{wait_on, ask_object, ask_none, ask_slot}
use Rattle.machine_spec.specs.Bodies.{bound, bind_under, bind_parent, good_entry, finish_entry, closed, finish_object, finish_load, loaded_from, loaded_by}
use Rattle.machine_spec.specs.Variables.{sleeping, value_reply, get_reply, set_on, del_found, del_on, names_reply}
use Rattle.machine_spec.specs.Search.{path_add, listing_reply, ns_of, ns_reply}
use Rattle.machine_spec.specs.Cache.{is_fixed, tab_set, tab_del}
use Rattle.machine_spec.specs.Reloads.{is_entry, busy_of, enter, reload_begin_on, reload_start, reload_take, kept_or_lost, reload_leave, reload_end_on}
use Rattle.machine_spec.specs.Lazies.{open_lazy, rouse_lazy, rouse_phase, rouse_on}
use Rattle.machine_spec.specs.Step.{step}
use Rattle.machine_spec.specs.Allowed.{allowed, has_object, is_ns_path, is_path_item, is_absent, has_ns, has_text, has_name, is_reloading, reloads_object}
use Rattle.machine_laws.proofs.Same.{either}
use Rattle.machine_laws.proofs.Holds.{same_text}
use Rattle.machine_laws.proofs.Lists.{pushed_at, pushed_last, pushed_keeps, within}
use Rattle.machine_laws.proofs.Leave.{fitting}
use Rattle.machine_shown.specs.Shown.{named, numbered, load_numbered, slot_modules, modules_in, loads_in}
use Rattle.machine_shown.specs.Knowing.{Has}
use Rattle.machine_allows.proofs.Values.{all_there, all_made, names_are, items_are, mapped_items, made_each}
use Rattle.machine_allows.proofs.Grow.{Grow, More, Stays, at_some, grow_same, grow_pushed, grow_then, grow_changed, all_grow, names_grow, items_grow, longer}
use Rattle.machine_allows.proofs.Named.{FitsVar, FitsState, EachVar, HasNames, AreNamed, each_set, each_deleted, each_found, slot_fits, restarted_named, main_fits, has_grow, named_grown, changed_at}

pub record Fine (s : State) (p : Reply × State) : Type 0 where
  pub grow : Grow s.table.objects p.1.table.objects
  pub there : all_there p.1.table (named p.0) ≡ true
  pub mids : (i : ℕ) → Has (numbered p.0) i → i < length p.1.table.objects
  pub loads : (i : ℕ) → Has (load_numbered p.0) i → i < length p.1.table.loads
  pub keeps : AreNamed p.1.table

-- a reply that names neither modules nor loads
abbrev Plain : Reply → Type 0
Plain r = (named r ≡ []) × (numbered r ≡ []) × (load_numbered r ≡ [])

none_in : (xs : List ℕ) → xs ≡ [] → (i : ℕ) → Has xs i → ⊥
none_in [] is i h = h
none_in (x ∷ xs) is i h = cc

plain : (s : State) (r : Reply) (s' : State) → Plain r → Grow s.table.objects s'.table.objects → AreNamed s'.table → Fine s (r, s')
plain s r s' p g keeps = record {
  grow = g;
  there = ap (all_there s'.table) p.0;
  mids = λ i h. absurd (none_in (numbered r) p.1 i h);
  loads = λ i h. absurd (none_in (load_numbered r) p.2 i h);
  keeps = keeps;
}

-- the table stays as it is
still : (s : State) → AreNamed s.table → (r : Reply) (s' : State) → Plain r → s'.table ≡ s.table → Fine s (r, s')
still s keeps r s' p same = plain s r s' p (subst (λ (z : Table). Grow s.table.objects z.objects) (sym same) (grow_same s.table.objects)) (subst AreNamed (sym same) keeps)

-- and the reply names modules and loads
tells_loads : (s : State) → AreNamed s.table → (r : Reply) (s' : State) → all_there s.table (named r) ≡ true → (numbered r ≡ []) × ((i : ℕ) → Has (load_numbered r) i → i < length s.table.loads) → s'.table ≡ s.table → Fine s (r, s')
tells_loads s keeps r s' there p same = record {
  grow = subst (λ (z : Table). Grow s.table.objects z.objects) (sym same) (grow_same s.table.objects);
  there = subst (λ (z : Table). all_there z (named r) ≡ true) (sym same) there;
  mids = λ i h. absurd (none_in (numbered r) p.0 i h);
  loads = λ i h. subst (λ (z : Table). i < length z.loads) (sym same) (p.1 i h);
  keeps = subst AreNamed (sym same) keeps;
}

-- or modules alone
tells : (s : State) → AreNamed s.table → (r : Reply) (s' : State) → all_there s.table (named r) ≡ true → (numbered r ≡ []) × (load_numbered r ≡ []) → s'.table ≡ s.table → Fine s (r, s')
tells s keeps r s' there p same = tells_loads s keeps r s' there (p.0, λ i h. absurd (none_in (load_numbered r) p.1 i h)) same

-- the table then changes once more
further : (s : State) (r : Reply) (s' s'' : State) → Fine s (r, s') → Grow s'.table.objects s''.table.objects → ((i : ℕ) → i < length s'.table.loads → i < length s''.table.loads) → AreNamed s''.table → Fine s (r, s'')
further s r s' s'' fine g more keeps = record {
  grow = grow_then s.table.objects s'.table.objects s''.table.objects fine.grow g;
  there = all_grow s'.table s''.table g (named r) fine.there;
  mids = λ i h. longer s'.table.objects s''.table.objects g i (fine.mids i h);
  loads = λ i h. more i (fine.loads i h);
  keeps = keeps;
}

-- Modules of a table.

placed : (kind : SpecKind) → is_place_of kind (place_of kind) ≡ true
placed kinds.Builtin = refl
placed (kinds.Source file) = nat_list_eq_equiv.refl file
placed (kinds.Package file path) = nat_list_eq_equiv.refl file
placed (kinds.Namespace path) = refl

pub object_there : (table : Table) (mid : ℕ) (o : Object) → slice_get table.objects mid ≡ Some o → is_module table (module_of o.spec mid) ≡ true
object_there table mid o is =
    ap (is_module_of (module_of o.spec mid)) is
    ∙ and_from (pointwise nat_eq o.spec.name o.spec.name) (is_place_of o.spec.kind (place_of o.spec.kind)) (nat_list_eq_equiv.refl o.spec.name) (placed o.spec.kind)

one : (table : Table) (m : ModRef) → is_module table m ≡ true → all_there table (m ∷ []) ≡ true
one table m h = and_from (is_module table m) true h refl

slot_there : (table : Table) (slot : Slot) → slot_names_module table slot ≡ true → all_there table (slot_modules slot) ≡ true
slot_there table slots.Absent h = refl
slot_there table slots.Halted h = refl
slot_there table (slots.Module m) h = one table m h

cached : (table : Table) → AreNamed table → (n : List ℕ) (slot : Slot) → get table.cache n ≡ Some slot → slot_names_module table slot ≡ true
cached table keeps n slots.Absent is = refl
cached table keeps n slots.Halted is = refl
cached table keeps n (slots.Module m) is = keeps.cache n m is

entry_there : (table : Table) → AreNamed table → (n : List ℕ) (o : Option Slot) → get table.cache n ≡ o → all_there table (slot_modules (entry_of o)) ≡ true
entry_there table keeps n None is = refl
entry_there table keeps n (Some slot) is = slot_there table slot (cached table keeps n slot is)

-- the modules and the loads in values that are named
items_there : (table : Table) (items : List Value) → list_all (names_modules table) items ≡ true → (all_there table (flat_map modules_in items) ≡ true) × ((i : ℕ) → Has (flat_map loads_in items) i → i < length table.loads)
items_there table items h =
    let parts = and_parts (all_there table (flat_map modules_in items)) (all_made table (flat_map loads_in items)) (sym (items_are table items) ∙ h) in
    (parts.0, made_each table (flat_map loads_in items) parts.1)

-- Tables that change.

changed_length : {X : Type 0} (f : X → X) (xs : List X) (i : ℕ) → length (changed f xs i) ≡ length xs
changed_length {X = X} f xs i = by (slice_get xs i)
  where
    set_length : {X : Type 0} (xs : List X) (i : ℕ) (x : X) → length (slice_set xs i x) ≡ length xs
    set_length [] i x = refl
    set_length (y ∷ ys) zero x = refl
    set_length (y ∷ ys) (suc i) x = ap (λ n. suc n) (set_length ys i x)

    by : (o : Option X) → length (changed_to f xs i o) ≡ length xs
    by None = refl
    by (Some x) = set_length xs i (f x)

-- one module changes, and its names with it
module _ (table : Table) (keeps : AreNamed table) (f : Object → Object) (same : (o : Object) → Stays o (f o)) (mid : ℕ) where
  abbrev moved : Table
  moved = record table { objects = changed f table.objects mid }

  moved_grow : Grow table.objects moved.objects
  moved_grow = grow_changed f same table.objects mid

  moved_named : ((o : Object) → HasNames moved o → HasNames moved (f o)) → AreNamed moved
  moved_named h = named_grown table moved keeps moved_grow (λ i less. less) (λ n m is. inl is) (inl refl)
      (λ i o is. elim (changed_at f table.objects mid i o is) [
        | inl old ↦ inl old
        | inr new ↦ inr (subst (HasNames moved) (sym new.2) (h new.0 (has_grow table moved moved_grow (λ i less. less) new.0 (keeps.objects i new.0 new.1))))
      ])

-- one more load
more_pushed : {X : Type 0} (xs : List X) (x : X) (i : ℕ) → i < length xs → i < length (xs ++ x ∷ [])
more_pushed xs x i less = let at = at_some xs i less in within (xs ++ x ∷ []) i at.0 (pushed_keeps xs x i at.0 at.1)

module _ (table : Table) (keeps : AreNamed table) where
  pub set_grow : (mid : ℕ) (x : List ℕ) (v : Value) → Grow table.objects (with_set table mid x v).objects
  set_grow mid x v = grow_changed (λ object. record object { vars = with_var object.vars x v }) (λ o. (refl, λ h. h)) table.objects mid

  set_named : (mid : ℕ) (x : List ℕ) (v : Value) → ((ns : Option NsState) → FitsVar table ns v) → AreNamed (with_set table mid x v)
  set_named mid x v fits =
      moved_named table keeps (λ object. record object { vars = with_var object.vars x v }) (λ o. (refl, λ h. h)) mid
      (λ o has. record {
        vars = each_set (FitsVar (with_set table mid x v) o.ns) o.vars x v has.vars (names_grow table (with_set table mid x v) (set_grow mid x v) (λ i less. less) v (fits o.ns).0, (fits o.ns).1);
        state = has.state;
      })

  deleted_named : (mid : ℕ) (x : List ℕ) → AreNamed (with_deleted table mid x)
  deleted_named mid x =
      moved_named table keeps (λ object. record object { vars = without_var object.vars x }) (λ o. (refl, λ h. h)) mid
      (λ o has. record { vars = each_deleted (FitsVar (with_deleted table mid x) o.ns) o.vars x has.vars; state = has.state })

  phase_named : (mid : ℕ) (phase : Phase) → AreNamed (with_phase table mid phase)
  phase_named mid phase =
      moved_named table keeps (λ object. record object { phase = phase }) (λ o. (refl, λ h. h)) mid
      (λ o has. record { vars = has.vars; state = has.state })

  ns_grow_set : (mid : ℕ) (state : NsState) → Grow table.objects (with_ns table mid state).objects
  ns_grow_set mid state = grow_changed (λ object. record object { ns = Some state }) (λ o. (refl, λ h. refl)) table.objects mid

  ns_named : (mid : ℕ) (state : NsState) → list_all (names_modules table) state.parent_path ≡ true → AreNamed (with_ns table mid state)
  ns_named mid state h =
      let after : Table = with_ns table mid state in
      moved_named table keeps (λ object. record object { ns = Some state }) (λ o. (refl, λ h. refl)) mid
      (λ o has. record { vars = any_state after o.ns state o.vars has.vars; state = items_grow table after (ns_grow_set mid state) (λ i less. less) state.parent_path h })
    where
      any_state : (after : Table) (ns : Option NsState) (state : NsState) (vars : List (List ℕ × Value)) → EachVar (FitsVar after ns) vars → EachVar (FitsVar after (Some state)) vars
      any_state after ns state [] each = tt
      any_state after ns state (v ∷ vars) each = ((each.0.0, λ h. refl), any_state after ns state vars each.1)

  -- the cache changes
  entry_named : (n : List ℕ) (slot : Slot) → slot_names_module table slot ≡ true → AreNamed (with_entry table n slot)
  entry_named n slot h = named_grown table (with_entry table n slot) keeps (grow_same table.objects) (λ i less. less)
      (λ k m is.
      elim (same_text k n) as (λ c. cond c (Some slot) (get table.cache k) ≡ Some (slots.Module m) → (get table.cache k ≡ Some (slots.Module m)) ⊎ (is_module table m ≡ true)) [
        | true ↦ λ e. inr (let same : slot ≡ slots.Module m = cc in sym (ap (slot_names_module table) same) ∙ h)
        | false ↦ λ e. inl e
      ] (sym (get-insert nat_list_cmp_total table.cache n slot k) ∙ is))
      (inl refl)
      (λ i o is. inl is)

  dropped_named : (n : List ℕ) → AreNamed (without_entry table n)
  dropped_named n = named_grown table (without_entry table n) keeps (grow_same table.objects) (λ i less. less)
      (λ k m is.
      elim (same_text k n) as (λ c. cond c None (get table.cache k) ≡ Some (slots.Module m) → (get table.cache k ≡ Some (slots.Module m)) ⊎ (is_module table m ≡ true)) [
        | true ↦ λ e. cc
        | false ↦ λ e. inl e
      ] (sym (get-remove nat_list_cmp_total table.cache n k) ∙ is))
      (inl refl)
      (λ i o is. inl is)

  -- the search path takes one more item
  inserted : (items : List Value) (k : ℕ) (v : Value) → list_all (names_modules table) items ≡ true → names_modules table v ≡ true → list_all (names_modules table) (take k items ++ v ∷ drop k items) ≡ true
  inserted items zero v h n = and_from (names_modules table v) (list_all (names_modules table) items) n h
  inserted [] (suc k) v h n = and_from (names_modules table v) true n refl
  inserted (x ∷ items) (suc k) v h n =
      let parts = and_parts (names_modules table x) (list_all (names_modules table) items) h in
      and_from (names_modules table x) (list_all (names_modules table) (take k items ++ v ∷ drop k items)) parts.0 (inserted items k v parts.1 n)

  item_named : (k : ℕ) (v : Value) → names_modules table v ≡ true → AreNamed (with_path_item table k v)
  item_named k v h = named_grown table (with_path_item table k v) keeps (grow_same table.objects) (λ i less. less) (λ n m is. inl is) (inr (inserted table.path k v keeps.path h)) (λ i o is. inl is)

  -- the next module, with its load, and in the cache
  module _ (spec : Spec) (phase : Phase) (kind : LoadKind) (t : ℕ) (text : List ℕ) (stage : LoadStage) where
    abbrev made : Table
    made = with_unit table spec phase kind t text stage

    abbrev fresh : Object
    fresh = record { spec = spec; phase = phase; vars = start_vars spec; ns = start_ns spec.kind; load = Some (length table.loads) }

    pub made_grow : Grow table.objects made.objects
    made_grow = grow_pushed table.objects fresh

    pub made_there : is_module made (module_of spec (length table.objects)) ≡ true
    made_there = object_there made (length table.objects) fresh (pushed_last table.objects fresh)

    first_state : (kind : SpecKind) → ns_or None (start_ns kind) ≡ start_ns kind
    first_state kinds.Builtin = refl
    first_state (kinds.Source file) = refl
    first_state (kinds.Package file path) = refl
    first_state (kinds.Namespace path) = refl

    fresh_named : HasNames made fresh
    fresh_named =
        let bare : Object = record fresh { vars = []; ns = None } in
        let has : HasNames made (record bare { vars = start_vars spec; ns = ns_or None (start_ns spec.kind) }) = restarted_named made spec bare (record { vars = tt; state = tt }) in
        subst (λ (ns : Option NsState). HasNames made (record fresh { ns = ns })) (first_state spec.kind) has

    pub made_named : AreNamed made
    made_named = named_grown table made keeps made_grow (more_pushed table.loads _)
        (λ k m is.
        let new : Slot = slots.Module (module_of spec (length table.objects)) in
        elim (same_text k spec.name) as (λ c. cond c (Some new) (get table.cache k) ≡ Some (slots.Module m) → (get table.cache k ≡ Some (slots.Module m)) ⊎ (is_module made m ≡ true)) [
          | true ↦ λ e. inr (let same : new ≡ slots.Module m = cc in sym (ap (slot_names_module made) same) ∙ made_there)
          | false ↦ λ e. inl e
        ] (sym (get-insert nat_list_cmp_total table.cache spec.name new k) ∙ is))
        (inl refl)
        (λ i o is. elim (pushed_at table.objects fresh i o is) [ inl old ↦ inl old | inr new ↦ inr (subst (HasNames made) (sym new.1) fresh_named) ])

one_more : {X : Type 0} (xs : List X) (x : X) → length xs < length (xs ++ x ∷ [])
one_more xs x = within (xs ++ x ∷ []) (length xs) x (pushed_last xs x)

only : (a : ℕ) (i : ℕ) → Has (a ∷ []) i → i ≡ a
only a i (inl e) = e
only a i (inr h) = absurd h

module _ (s : State) (keeps : AreNamed s.table) (t : ℕ) where
  -- Waits.
  pub waits_on : (n : List ℕ) (blocked : Reply) → all_there s.table (named blocked) ≡ true → (numbered blocked ≡ []) × (load_numbered blocked ≡ []) → Fine s (wait_on s t n blocked)
  waits_on n blocked there p =
      elim (closes s.locks t n) as (λ b. Fine s (cond b blocked (replies.Wait n), record s { locks = cond b s.locks (waiting s.locks t n) })) [
        | true ↦ tells s keeps blocked (record s { locks = s.locks }) there p refl
        | false ↦ still s keeps (replies.Wait n) (record s { locks = waiting s.locks t n }) (refl, refl, refl) refl
      ]

  asks_object : (m : ModRef) (o : Option Object) → is_module s.table m ≡ true → Fine s (ask_object s t m o)
  asks_object m None h = tells s keeps (replies.Module m) s (one s.table m h) (refl, refl) refl
  asks_object m (Some o) h =
      either (Fine s) (is_initialising o.phase && not (owns s.locks t o.spec.name)) _ _
      (waits_on o.spec.name (replies.Cycle m) (one s.table m h) (refl, refl))
      (tells s keeps (replies.Module m) s (one s.table m h) (refl, refl) refl)

  asks_none : (n : List ℕ) (missing : Reply × State) → Fine s missing → Fine s (ask_none s t n missing)
  asks_none n missing h = either (Fine s) (is_free s.locks t n) _ _ h (waits_on n replies.Deadlock refl (refl, refl))

  asks_slot : (n : List ℕ) (missing : Reply × State) → Fine s missing → (slot : Option Slot) → get s.table.cache n ≡ slot → Fine s (ask_slot s t n missing slot)
  asks_slot n missing h None is = asks_none n missing h
  asks_slot n missing h (Some slots.Absent) is = asks_none n missing h
  asks_slot n missing h (Some slots.Halted) is = still s keeps replies.Halted s (refl, refl, refl) refl
  asks_slot n missing h (Some (slots.Module m)) is = asks_object m (slice_get s.table.objects m.mid) (keeps.cache n m is)

  -- Bodies.
  adds : (spec : Spec) (text : List ℕ) → Fine s (step s t (events.Add spec text))
  adds spec text = record {
    grow = made_grow s.table keeps spec phases.Initialising load_kinds.Plain t text stages.Open;
    there = refl;
    mids = λ i h. subst (λ k. k < length (with_unit s.table spec phases.Initialising load_kinds.Plain t text stages.Open).objects) (sym (only (length s.table.objects) i h)) (one_more s.table.objects _);
    loads = λ i h. subst (λ k. k < length (with_unit s.table spec phases.Initialising load_kinds.Plain t text stages.Open).loads) (sym (only (length s.table.loads) i h)) (one_more s.table.loads _);
    keeps = made_named s.table keeps spec phases.Initialising load_kinds.Plain t text stages.Open;
  }

  adds_lazy : (spec : Spec) (text : List ℕ) → Fine s (step s t (events.AddLazy spec text))
  adds_lazy spec text = record {
    grow = made_grow s.table keeps spec phases.Lazy load_kinds.Lazy t text stages.Resting;
    there = one (with_unit s.table spec phases.Lazy load_kinds.Lazy t text stages.Resting) (module_of spec (length s.table.objects)) (made_there s.table keeps spec phases.Lazy load_kinds.Lazy t text stages.Resting);
    mids = λ i h. absurd h;
    loads = λ i h. absurd h;
    keeps = made_named s.table keeps spec phases.Lazy load_kinds.Lazy t text stages.Resting;
  }

  sets : (r : Reply) (mid : ℕ) (x : List ℕ) (v : Value) → ((ns : Option NsState) → FitsVar s.table ns v) → all_there s.table (named r) ≡ true → (numbered r ≡ []) × (load_numbered r ≡ []) → Fine s (r, record s { table = with_set s.table mid x v })
  sets r mid x v fits there p = further s r s (record s { table = with_set s.table mid x v }) (tells s keeps r s there p refl) (set_grow s.table keeps mid x v) (λ i less. less) (set_named s.table keeps mid x v fits)

  binds : (n : List ℕ) (entry : Slot) → slot_names_module s.table entry ≡ true → (parent : Slot) → Fine s (replies.Kept entry, bound s n entry parent)
  binds n entry h slots.Absent = tells s keeps (replies.Kept entry) s (slot_there s.table entry h) (refl, refl) refl
  binds n entry h slots.Halted = tells s keeps (replies.Kept entry) s (slot_there s.table entry h) (refl, refl) refl
  binds n entry h (slots.Module m) =
      either (λ z. Fine s (replies.Kept entry, z)) (is_built_in_place m.place) _ _
      (tells s keeps (replies.Kept entry) s (slot_there s.table entry h) (refl, refl) refl)
      (sets (replies.Kept entry) m.mid (tail_of n) (value_of entry) (λ ns. slot_fits s.table ns entry h) (slot_there s.table entry h) (refl, refl))

  binds_under : (n : List ℕ) (entry : Slot) → slot_names_module s.table entry ≡ true → (parent : Option Slot) → Fine s (bind_under s n entry parent)
  binds_under n entry h None = still s keeps replies.LostParent s (refl, refl, refl) refl
  binds_under n entry h (Some parent) = binds n entry h parent

  binds_parent : (n : List ℕ) (entry : Slot) → slot_names_module s.table entry ≡ true → (parent : Option (List ℕ)) → Fine s (bind_parent s n entry parent)
  binds_parent n entry h None = tells s keeps (replies.Kept entry) s (slot_there s.table entry h) (refl, refl) refl
  binds_parent n entry h (Some parent) = binds_under n entry h (get s.table.cache parent)

  keeps_entry : (n : List ℕ) (entry : Option Slot) → get s.table.cache n ≡ entry → Fine s (replies.Kept (entry_of entry), s)
  keeps_entry n entry is = tells s keeps (replies.Kept (entry_of entry)) s (entry_there s.table keeps n entry is) (refl, refl) refl

  good_entries : (kind : LoadKind) (n : List ℕ) (entry : Option Slot) → get s.table.cache n ≡ entry → Fine s (good_entry s kind n entry)
  good_entries load_kinds.Plain n None is = still s keeps replies.Lost s (refl, refl, refl) refl
  good_entries load_kinds.Plain n (Some entry) is = binds_parent n entry (cached s.table keeps n entry is) (parent_of n)
  good_entries load_kinds.Main n entry is = keeps_entry n entry is
  good_entries load_kinds.Lazy n entry is = keeps_entry n entry is
  good_entries load_kinds.Reload n entry is = keeps_entry n entry is

  finishes_entry : (kind : LoadKind) (good : Bool) (n : List ℕ) → Fine s (finish_entry s kind good n)
  finishes_entry kind good n =
      either (Fine s) good _ _ (good_entries kind n (get s.table.cache n) refl)
      (plain s (replies.Kept slots.Absent) (record s { table = without_entry s.table n }) (refl, refl, refl) (grow_same s.table.objects) (dropped_named s.table keeps n))

  -- a load that ends changes nothing that is named
  ended_named : (table : Table) → AreNamed table → (load : ℕ) → AreNamed (with_end table load)
  ended_named table keeps load =
      named_grown table (with_end table load) keeps (grow_same table.objects)
      (λ i less. subst (λ k. i < k) (sym (changed_length (λ load. record load { stage = stages.Ended }) table.loads load)) less)
      (λ n m is. inl is) (inl refl) (λ i o is. inl is)

  closes_load : (load mid : ℕ) (n : List ℕ) (p : Reply × State) → Fine s p → Fine s (p.0, closed t load mid n p.1)
  closes_load load mid n p fine =
      further s p.0 p.1 (closed t load mid n p.1) fine
      (grow_changed (λ object. record object { phase = phases.Ready }) (λ o. (refl, λ h. h)) p.1.table.objects mid)
      (λ i less. subst (λ k. i < k) (sym (changed_length (λ load. record load { stage = stages.Ended }) p.1.table.loads load)) less)
      (phase_named (with_end p.1.table load) (ended_named p.1.table fine.keeps load) mid phases.Ready)

  finishes_object : (load : ℕ) (good : Bool) (l : Load) (o : Option Object) → Fine s (finish_object s t load good l o)
  finishes_object load good l None = still s keeps replies.Done s (refl, refl, refl) refl
  finishes_object load good l (Some o) = closes_load load l.mid o.spec.name (finish_entry s l.kind good o.spec.name) (finishes_entry l.kind good o.spec.name)

  finishes : (load : ℕ) (good : Bool) (l : Option Load) → Fine s (finish_load s t load good l)
  finishes load good None = still s keeps replies.Done s (refl, refl, refl) refl
  finishes load good (Some l) = finishes_object load good l (slice_get s.table.objects l.mid)

  loads_from : (l : Load) (o : Option Object) → slice_get s.table.objects l.mid ≡ o → Fine s (loaded_from l o, s)
  loads_from l None is = still s keeps replies.Done s (refl, refl, refl) refl
  loads_from l (Some o) is = tells s keeps (replies.Loaded (module_of o.spec l.mid) l.text) s (one s.table (module_of o.spec l.mid) (object_there s.table l.mid o is)) (refl, refl) refl

  loads_by : (l : Option Load) → Fine s (loaded_by s l, s)
  loads_by None = still s keeps replies.Done s (refl, refl, refl) refl
  loads_by (Some l) = loads_from l (slice_get s.table.objects l.mid) refl

  -- Variables.
  reads : (o : Object) (v : Option Value) (x : List ℕ) → EachVar (FitsVar s.table o.ns) o.vars → var_of o.vars x ≡ v → Fine s (value_reply o v, s)
  reads o None x each is = still s keeps (replies.Unset (is_initialising o.phase)) s (refl, refl, refl) refl
  reads o (Some v) x each is =
      let fits : FitsVar s.table o.ns v = each_found (FitsVar s.table o.ns) o.vars x v each is in
      let parts = and_parts (all_there s.table (modules_in v)) (all_made s.table (loads_in v)) (sym (names_are s.table v) ∙ fits.0) in
      tells_loads s keeps (replies.Value v) s parts.0 (refl, made_each s.table (loads_in v) parts.1) refl

  gets : (mid : ℕ) (x : List ℕ) (raw : Bool) (o : Option Object) → slice_get s.table.objects mid ≡ o → Fine s (get_reply s t x raw o, s)
  gets mid x raw None is = still s keeps (replies.Unset false) s (refl, refl, refl) refl
  gets mid x raw (Some o) is =
      either (λ r. Fine s (r, s)) (sleeping s t raw o) _ _ (still s keeps replies.Sleeping s (refl, refl, refl) refl)
      (reads o (var_of o.vars x) x (keeps.objects mid o is).vars refl)

  sets_on : (mid : ℕ) (x : List ℕ) (v : Value) (raw : Bool) (o : Option Object) → ((ns : Option NsState) → FitsVar s.table ns v) → Fine s (set_on s t mid x v raw o)
  sets_on mid x v raw None fits = still s keeps replies.Done s (refl, refl, refl) refl
  sets_on mid x v raw (Some o) fits =
      either (Fine s) (is_built_in o.spec.kind) _ _ (still s keeps replies.Fixed s (refl, refl, refl) refl)
      (either (Fine s) (sleeping s t raw o) _ _ (still s keeps replies.Sleeping s (refl, refl, refl) refl) (sets replies.Done mid x v fits refl (refl, refl)))

  deletes_found : (mid : ℕ) (x : List ℕ) (o : Object) (v : Option Value) → Fine s (del_found s mid x o v)
  deletes_found mid x o None = still s keeps (replies.Unset (is_initialising o.phase)) s (refl, refl, refl) refl
  deletes_found mid x o (Some v) =
      plain s replies.Done (record s { table = with_deleted s.table mid x }) (refl, refl, refl)
      (grow_changed (λ object. record object { vars = without_var object.vars x }) (λ o. (refl, λ h. h)) s.table.objects mid) (deleted_named s.table keeps mid x)

  deletes_on : (mid : ℕ) (x : List ℕ) (raw : Bool) (o : Option Object) → Fine s (del_on s t mid x raw o)
  deletes_on mid x raw None = still s keeps replies.Done s (refl, refl, refl) refl
  deletes_on mid x raw (Some o) =
      either (Fine s) (is_built_in o.spec.kind) _ _ (still s keeps replies.Fixed s (refl, refl, refl) refl)
      (either (Fine s) (sleeping s t raw o) _ _ (still s keeps replies.Sleeping s (refl, refl, refl) refl) (deletes_found mid x o (var_of o.vars x)))

  lists : (o : Option Object) → Fine s (names_reply o, s)
  lists None = still s keeps (replies.Names []) s (refl, refl, refl) refl
  lists (Some o) = still s keeps (replies.Names (map (λ p. p.0) o.vars)) s (refl, refl, refl) refl

  -- The search.
  adds_path : (at : Option ℤ) (v : Value) → names_modules s.table v ≡ true → Fine s (path_add s at v)
  adds_path at v h =
      elim (nat_lt (length s.table.path) 4096) as (λ b. Fine s (cond b replies.Done replies.Full, record s { table = cond b (with_path_item s.table (place_from (length s.table.path) at) v) s.table })) [
        | true ↦ plain s replies.Done (record s { table = with_path_item s.table (place_from (length s.table.path) at) v }) (refl, refl, refl) (grow_same s.table.objects) (item_named s.table keeps (place_from (length s.table.path) at) v h)
        | false ↦ still s keeps replies.Full (record s { table = s.table }) (refl, refl, refl) refl
      ]

  ns_told : (ns : Option NsState) → FitsState s.table ns → Fine s (ns_of ns s.table.epoch, s)
  ns_told None h = still s keeps replies.Done s (refl, refl, refl) refl
  ns_told (Some state) h =
      let parts = items_there s.table state.parent_path h in
      tells_loads s keeps (replies.Ns state s.table.epoch) s parts.0 (refl, parts.1) refl

  ns_reads : (mid : ℕ) (o : Option Object) → slice_get s.table.objects mid ≡ o → Fine s (ns_reply o s.table.epoch, s)
  ns_reads mid None is = still s keeps replies.Done s (refl, refl, refl) refl
  ns_reads mid (Some o) is = ns_told o.ns (keeps.objects mid o is).state

  listed : (part : List ℕ) (l : Option Listing) → Fine s (listing_reply part l, s)
  listed part None = still s keeps replies.NoListing s (refl, refl, refl) refl
  listed part (Some l) = still s keeps (listing_reply part (Some l)) s (refl, refl, refl) refl

  -- The cache.
  sets_tab : (n : List ℕ) (slot : Slot) → slot_names_module s.table slot ≡ true → Fine s (tab_set s n slot)
  sets_tab n slot h =
      either (Fine s) (is_fixed n) _ _ (still s keeps replies.Fixed s (refl, refl, refl) refl)
      (plain s replies.Done (record s { table = with_entry s.table n slot }) (refl, refl, refl) (grow_same s.table.objects) (entry_named s.table keeps n slot h))

  deletes_tab : (n : List ℕ) → Fine s (tab_del s n)
  deletes_tab n =
      either (Fine s) (is_fixed n) _ _ (still s keeps replies.Fixed s (refl, refl, refl) refl)
      (further s (replies.Was (entry_of (get s.table.cache n))) s (record s { table = without_entry s.table n })
      (tells s keeps (replies.Was (entry_of (get s.table.cache n))) s (entry_there s.table keeps n (get s.table.cache n) refl) (refl, refl) refl)
      (grow_same s.table.objects) (λ i less. less) (dropped_named s.table keeps n))

  -- Reloads.
  same_named : (table : Table) → More s.table table → table.cache ≡ s.table.cache → table.path ≡ s.table.path → table.objects ≡ s.table.objects → AreNamed table
  same_named table more cache path objects =
      let g : Grow s.table.objects table.objects = subst (Grow s.table.objects) (sym objects) (grow_same s.table.objects) in
      named_grown s.table table keeps g more (λ n m is. inl (ap (λ c. get c n) (sym cache) ∙ is)) (inl path) (λ i o is. inl (ap (λ os. slice_get os i) (sym objects) ∙ is))

  busy : (mid : ℕ) (o : Option Object) → slice_get s.table.objects mid ≡ o → Fine s (busy_of mid o, s)
  busy mid None is = still s keeps replies.NotThere s (refl, refl, refl) refl
  busy mid (Some o) is = tells s keeps (replies.Busy (module_of o.spec mid)) s (one s.table (module_of o.spec mid) (object_there s.table mid o is)) (refl, refl) refl

  enters : (mid : ℕ) (n : List ℕ) (r : Option Reload) → Fine s (enter s t mid n r)
  enters mid n (Some r) = busy r.mid (slice_get s.table.objects r.mid) refl
  enters mid n None =
      let after : State = record s { table = with_reload s.table n (record { thread = t; mid = mid; load = None }) } in
      plain s (replies.Begun s.table.epoch) after (refl, refl, refl) (grow_same s.table.objects) (same_named after.table (λ i less. less) refl refl refl)

  begins : (mid : ℕ) (raw : Bool) (o : Option Object) → Fine s (reload_begin_on s t mid raw o)
  begins mid raw None = still s keeps replies.NotThere s (refl, refl, refl) refl
  begins mid raw (Some o) =
      either (Fine s) (is_built_in o.spec.kind) _ _ (still s keeps replies.Fixed s (refl, refl, refl) refl)
      (either (Fine s) (sleeping s t raw o) _ _ (still s keeps replies.Sleeping s (refl, refl, refl) refl)
      (either (Fine s) (is_entry mid (get s.table.cache o.spec.name)) _ _ (enters mid o.spec.name (get s.table.reloading o.spec.name)) (still s keeps replies.NotThere s (refl, refl, refl) refl)))

  abbrev again : ℕ → Spec → List ℕ → Table → Table
  again mid spec text table = record table {
    objects = changed (restarted_object spec) s.table.objects mid;
    loads = s.table.loads ++ record { kind = load_kinds.Reload; thread = t; mid = mid; text = text; stage = stages.Open } ∷ [];
  }

  restart_stays : (spec : Spec) (o : Object) → Stays o (restarted_object spec o)
  restart_stays spec o = (refl, λ h. more (start_ns spec.kind) h)
    where
      more : (ns : Option NsState) → is_some o.ns ≡ true → is_some (ns_or o.ns ns) ≡ true
      more None h = h
      more (Some state) h = refl

  again_named : (mid : ℕ) (spec : Spec) (text : List ℕ) (table : Table) → table.cache ≡ s.table.cache → table.path ≡ s.table.path → AreNamed (again mid spec text table)
  again_named mid spec text table cache path =
      let after : Table = again mid spec text table in
      let g : Grow s.table.objects after.objects = grow_changed (restarted_object spec) (restart_stays spec) s.table.objects mid in
      named_grown s.table after keeps g (more_pushed s.table.loads _) (λ n m is. inl (ap (λ c. get c n) (sym cache) ∙ is)) (inl path)
      (λ i o is. elim (changed_at (restarted_object spec) s.table.objects mid i o is) [
        | inl old ↦ inl old
        | inr new ↦ inr (subst (HasNames after) (sym new.2) (restarted_named after spec new.0 (has_grow s.table after g (more_pushed s.table.loads _) new.0 (keeps.objects i new.0 new.1))))
      ])

  opened_cache : (n : List ℕ) (load : ℕ) (o : Option Reload) → ((reload_opened s.table n load o).cache ≡ s.table.cache) × ((reload_opened s.table n load o).path ≡ s.table.path)
  opened_cache n load None = (refl, refl)
  opened_cache n load (Some r) = (refl, refl)

  starts : (mid : ℕ) (spec : Spec) (text : List ℕ) → mid < length s.table.objects → Fine s (reload_start s t mid spec text)
  starts mid spec text less =
      let table : Table = reload_opened s.table spec.name (length s.table.loads) (get s.table.reloading spec.name) in
      let same = opened_cache spec.name (length s.table.loads) (get s.table.reloading spec.name) in
      record {
        grow = grow_changed (restarted_object spec) (restart_stays spec) s.table.objects mid;
        there = refl;
        mids = λ i h. subst (λ k. k < length (changed (restarted_object spec) s.table.objects mid)) (sym (only mid i h)) (subst (λ k. mid < k) (sym (changed_length (restarted_object spec) s.table.objects mid)) less);
        loads = λ i h. subst (λ k. k < length (s.table.loads ++ record { kind = load_kinds.Reload; thread = t; mid = mid; text = text; stage = stages.Open } ∷ [])) (sym (only (length s.table.loads) i h)) (one_more s.table.loads _);
        keeps = again_named mid spec text table same.0 same.1;
      }

  takes_again : (mid : ℕ) (spec : Spec) (text : List ℕ) → mid < length s.table.objects → Fine s (reload_take s t mid spec text)
  takes_again mid spec text less =
      either (Fine s) (is_free s.locks t spec.name) _ _
      (either (Fine s) (is_entry mid (get s.table.cache spec.name)) _ _ (starts mid spec text less) (still s keeps replies.NotThere s (refl, refl, refl) refl))
      (waits_on spec.name replies.Deadlock refl (refl, refl))

  kept_or : (n : List ℕ) (entry : Option Slot) → get s.table.cache n ≡ entry → Fine s (kept_or_lost entry, s)
  kept_or n None is = still s keeps replies.Lost s (refl, refl, refl) refl
  kept_or n (Some slot) is = tells s keeps (replies.Kept slot) s (slot_there s.table slot (cached s.table keeps n slot is)) (refl, refl) refl

  leaves : (n : List ℕ) (load : Option ℕ) → Fine s (reload_leave s t n load)
  leaves n None = plain s replies.Done (record s { table = without_reload s.table n }) (refl, refl, refl) (grow_same s.table.objects) (same_named (without_reload s.table n) (λ i less. less) refl refl refl)
  leaves n (Some load) =
      let after : State = record s { table = with_end (without_reload s.table n) load; locks = given s.locks t n } in
      further s (kept_or_lost (get s.table.cache n)) s after (kept_or n (get s.table.cache n) refl) (grow_same s.table.objects)
      (λ i less. subst (λ k. i < k) (sym (changed_length (λ load. record load { stage = stages.Ended }) s.table.loads load)) less)
      (same_named after.table (λ i less. subst (λ k. i < k) (sym (changed_length (λ load. record load { stage = stages.Ended }) s.table.loads load)) less) refl refl refl)

  ends_again : (load : Option ℕ) (o : Option Object) → Fine s (reload_end_on s t load o)
  ends_again load None = still s keeps replies.Done s (refl, refl, refl) refl
  ends_again load (Some o) = leaves o.spec.name load

  -- Lazy modules.
  opens_lazy : (mid : ℕ) (n : List ℕ) (load : ℕ) (l : Option Load) → slice_get s.table.loads load ≡ l → Fine s (open_lazy s t mid n load l)
  opens_lazy mid n load None is = still s keeps replies.Ready s (refl, refl, refl) refl
  opens_lazy mid n load (Some l) is =
      let middle : Table = with_open s.table load t in
      let open_named : AreNamed middle = same_named middle (λ i less. subst (λ k. i < k) (sym (changed_length (λ load. record load { stage = stages.Open; thread = t }) s.table.loads load)) less) refl refl refl in
      record {
        grow = grow_changed (λ object. record object { phase = phases.Initialising }) (λ o. (refl, λ h. h)) s.table.objects mid;
        there = refl;
        mids = λ i h. absurd h;
        loads = λ i h.
            subst (λ k. k < length (changed (λ load. record load { stage = stages.Open; thread = t }) s.table.loads load)) (sym (only load i h))
            (subst (λ k. load < k) (sym (changed_length (λ load. record load { stage = stages.Open; thread = t }) s.table.loads load)) (within s.table.loads load l is));
        keeps = phase_named middle open_named mid phases.Initialising;
      }

  rouses_lazy : (mid : ℕ) (n : List ℕ) (load : Option ℕ) → Fine s (rouse_lazy s t mid n load)
  rouses_lazy mid n None = still s keeps replies.Ready s (refl, refl, refl) refl
  rouses_lazy mid n (Some load) = either (Fine s) (is_free s.locks t n) _ _ (opens_lazy mid n load (slice_get s.table.loads load) refl) (waits_on n replies.Deadlock refl (refl, refl))

  rouses_phase : (mid : ℕ) (o : Object) (phase : Phase) → slice_get s.table.objects mid ≡ Some o → Fine s (rouse_phase s t mid o phase)
  rouses_phase mid o phases.Ready is = still s keeps replies.Ready s (refl, refl, refl) refl
  rouses_phase mid o phases.Initialising is =
      either (Fine s) (owns s.locks t o.spec.name) _ _ (still s keeps replies.Ready s (refl, refl, refl) refl)
      (waits_on o.spec.name (replies.Cycle (module_of o.spec mid)) (one s.table (module_of o.spec mid) (object_there s.table mid o is)) (refl, refl))
  rouses_phase mid o phases.Lazy is = rouses_lazy mid o.spec.name o.load

  rouses_on : (mid : ℕ) (o : Option Object) → slice_get s.table.objects mid ≡ o → Fine s (rouse_on s t mid o)
  rouses_on mid None is = still s keeps replies.Ready s (refl, refl, refl) refl
  rouses_on mid (Some o) is = rouses_phase mid o o.phase is

  runs_main : (spec : Spec) (text : List ℕ) → Fine s (step s t (events.Main spec text))
  runs_main spec text =
      let after : State = record s { table = with_main s.table t spec text } in
      let f : Object → Object = λ object. record object { vars = main_vars spec object.vars } in
      let g : Grow s.table.objects after.table.objects = grow_changed f (λ o. (refl, λ h. h)) s.table.objects t in
      let more : More s.table after.table = λ i less. subst (λ k. i < k) (sym (changed_length (λ load. record load { text = text }) s.table.loads t)) less in
      plain s replies.Done after (refl, refl, refl) g
      (named_grown s.table after.table keeps g more (λ n m is. inl is) (inl refl)
      (λ i o is. elim (changed_at f s.table.objects t i o is) [
        | inl old ↦ inl old
        | inr new ↦ inr (let has = has_grow s.table after.table g more new.0 (keeps.objects i new.0 new.1) in subst (HasNames after.table) (sym new.2) (record { vars = main_fits after.table new.0.ns spec new.0.vars has.vars; state = has.state }))
      ]))

untrue : (b : Bool) → not b ≡ true → b ≡ false
untrue true h = absurd (false≢true h)
untrue false h = refl

-- a value that is no path of a namespace may be set anywhere
settable : (table : Table) (v : Value) → names_modules table v ≡ true → is_ns_path v ≡ false → (ns : Option NsState) → FitsVar table ns v
settable table v names other ns = (names, λ h. absurd (false≢true (sym other ∙ h)))

reload_there : (s : State) (t mid : ℕ) (o : Option Object) → slice_get s.table.objects mid ≡ o → reloads_object s t mid None o ≡ true → mid < length s.table.objects
reload_there s t mid None is h = absurd (false≢true h)
reload_there s t mid (Some o) is h = within s.table.objects mid o is

pub fine_step : (s : State) → AreNamed s.table → (t : ℕ) (e : Event) → allowed s t e ≡ true → Fine s (step s t e)
fine_step s keeps t (events.Ask n) h = asks_slot s keeps t n _ (still s keeps replies.Missing s (refl, refl, refl) refl) (get s.table.cache n) refl
fine_step s keeps t (events.Take n) h = asks_slot s keeps t n _ (still s keeps (replies.Mine s.table.epoch) (record s { locks = got s.locks t n }) (refl, refl, refl) refl) (get s.table.cache n) refl
fine_step s keeps t events.Wake h = still s keeps replies.Woken (step s t events.Wake).1 (refl, refl, refl) refl
fine_step s keeps t (events.Add spec text) h = adds s keeps t spec text
fine_step s keeps t (events.Finish load good) h = finishes s keeps t load good (slice_get s.table.loads load)
fine_step s keeps t (events.Release n) h = still s keeps replies.Done (step s t (events.Release n)).1 (refl, refl, refl) refl
fine_step s keeps t (events.GetVar mid x raw) h = gets s keeps t mid x raw (slice_get s.table.objects mid) refl
fine_step s keeps t (events.SetVar raw mid x v) h =
    let fits = fitting s t (events.SetVar raw mid x v) h refl in
    let parts = and_parts (has_object s mid && not (is_ns_path v)) (names_modules s.table v) fits in
    let front = and_parts (has_object s mid) (not (is_ns_path v)) parts.0 in
    sets_on s keeps t mid x v raw (slice_get s.table.objects mid) (settable s.table v parts.1 (untrue (is_ns_path v) front.1))
fine_step s keeps t (events.DelVar mid x raw) h = deletes_on s keeps t mid x raw (slice_get s.table.objects mid)
fine_step s keeps t (events.Names mid) h = lists s keeps t (slice_get s.table.objects mid)
fine_step s keeps t (events.Source load) h = loads_by s keeps t (slice_get s.table.loads load)
fine_step s keeps t (events.Print text) h = still s keeps replies.Done s (refl, refl, refl) refl
fine_step s keeps t events.PathGet h = let parts = items_there s.table s.table.path keeps.path in tells_loads s keeps (replies.Path s.table.path) s parts.0 (refl, parts.1) refl
fine_step s keeps t (events.PathAdd at v) h = adds_path s keeps t at v (and_parts (is_path_item v) (names_modules s.table v) (fitting s t (events.PathAdd at v) h refl)).1
fine_step s keeps t (events.DirGet dir part) h = listed s keeps t part (get s.listings dir)
fine_step s keeps t (events.DirSet dir listing) h = still s keeps replies.Done (step s t (events.DirSet dir listing)).1 (refl, refl, refl) refl
fine_step s keeps t events.Invalidate h =
    plain s replies.Done (step s t events.Invalidate).1 (refl, refl, refl) (grow_same s.table.objects) (same_named s keeps t (step s t events.Invalidate).1.table (λ i less. less) refl refl refl)
fine_step s keeps t (events.NsGet mid) h = ns_reads s keeps t mid (slice_get s.table.objects mid) refl
fine_step s keeps t (events.NsSet mid state) h =
    let fits = fitting s t (events.NsSet mid state) h refl in
    let parts = and_parts (has_ns (slice_get s.table.objects mid)) (list_all (λ b. b) (map (names_modules s.table) state.parent_path)) fits in
    plain s replies.Done (step s t (events.NsSet mid state)).1 (refl, refl, refl) (ns_grow_set s.table keeps mid state) (ns_named s.table keeps mid state (sym (mapped_items s.table state.parent_path) ∙ parts.1))
fine_step s keeps t (events.TabGet n) h = tells s keeps (replies.Slot (entry_of (get s.table.cache n))) s (entry_there s.table keeps n (get s.table.cache n) refl) (refl, refl) refl
fine_step s keeps t (events.TabSet n slot) h = sets_tab s keeps t n slot (and_parts (not (is_absent slot)) (slot_names_module s.table slot) (fitting s t (events.TabSet n slot) h refl)).1
fine_step s keeps t (events.TabDel n) h = deletes_tab s keeps t n
fine_step s keeps t (events.ReloadBegin mid raw) h = begins s keeps t mid raw (slice_get s.table.objects mid)
fine_step s keeps t (events.ReloadTake mid spec text) h =
    let fits = fitting s t (events.ReloadTake mid spec text) h refl in
    let parts = and_parts (is_reloading s t mid None && has_name (slice_get s.table.objects mid) spec.name) (has_text spec.kind text) fits in
    let front = and_parts (is_reloading s t mid None) (has_name (slice_get s.table.objects mid) spec.name) parts.0 in
    takes_again s keeps t mid spec text (reload_there s t mid (slice_get s.table.objects mid) refl front.0)
fine_step s keeps t (events.ReloadEnd mid load) h = ends_again s keeps t load (slice_get s.table.objects mid)
fine_step s keeps t (events.AddLazy spec text) h = adds_lazy s keeps t spec text
fine_step s keeps t (events.Rouse mid) h = rouses_on s keeps t mid (slice_get s.table.objects mid) refl
fine_step s keeps t (events.Main spec text) h = runs_main s keeps t spec text
fine_step s keeps t (events.End outcome spent) h = plain s replies.Done (step s t (events.End outcome spent)).1 (refl, refl, refl) (grow_same s.table.objects) (same_named s keeps t (step s t (events.End outcome spent)).1.table (λ i less. less) refl refl refl)
