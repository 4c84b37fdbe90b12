-- What is true of a state and enough for an event is what the state asks of the event.
use Rattle.std.proofs.Common.{◌≡◌, ◌<◌, ◌≤◌, ℕ, zero, suc, arith, Bool, true, false, cond, ◌&&◌, List, [], ◌∷◌, map, length, Option, Some, None, refl, sym, ap, subst, ◌∙◌, inl, inr, eqb, ltb, leb}
use Rattle.std.specs.Prelude.{◌==◌, slice_get, nat_eq, not, sum_by, count_by, flat_map}
use Rattle.std.specs.List.{list_any, list_all}
use Rattle.std.specs.Option.{option_map}
use Rattle.std.specs.Ordering.{nat_cmp}
use Rattle.std.specs.Cmp.Lexicographic.{pointwise, slice_cmp, nat_list_cmp_total, nat_list_eq_equiv}
use Rattle.std.specs.FinMap.{get}
use Rattle.std.proofs.lemmas.Bool.{false≢true, and_parts, and_from, eqb-true, eq-eqb, lt-ltb, le-leb}
use Rattle.std.proofs.lemmas.List.Sums.{sum_by-cons}
use Rattle.std.proofs.lemmas.Slice.Eq.{bytes_eq-Decides}
use Rattle.py_value.specs.declared.value.ModRef.{ModRef}
use Rattle.py_value.specs.declared.value.Value.{Value, roll-Value, out-Value, roll-out-Value}
use Rattle.py_value.specs.declared.value.Value.TheOpen.{Value-F}
use Rattle.spec_core.specs.declared.spec.SpecKind.{SpecKind}
use Rattle.spec_core.specs.declared.spec.SpecKind.TheVariants as kinds
use Rattle.machine_events.specs.Loads.{is_same_load}
use Rattle.machine_events.proofs.Loads.{same_load_self}
use Rattle.machine_events.specs.declared.module.Slot.{Slot}
use Rattle.machine_events.specs.declared.module.Slot.TheVariants as slots
use Rattle.machine_events.specs.declared.event.Event.{Event}
use Rattle.machine_events.specs.declared.event.Event.TheVariants as events
use Rattle.module_lock.specs.declared.locks.Lock.{Lock}
use Rattle.module_lock.specs.Table.{lock_of, holds as owns_any}
use Rattle.module_table.specs.Tables.{reloads}
use Rattle.module_table.specs.declared.module.Object.{Object}
use Rattle.module_table.specs.declared.module.Load.{Load}
use Rattle.module_table.specs.declared.module.LoadKind.{LoadKind}
use Rattle.module_table.specs.declared.module.LoadKind.TheVariants as load_kinds
use Rattle.module_table.specs.declared.module.Reload.{Reload}
use Rattle.machine_spec.specs.declared.state.State.{State}
use Rattle.machine_spec.specs.Parts.{is_open, is_main, is_imported}
use Rattle.machine_spec.specs.Known.{is_module, is_module_of, is_place_of, names_modules, slot_names_module}
use Rattle.machine_spec.specs.Allowed.{fits, has_spare, spare_of, counts_for, has_text, has_body, is_source, can_finish, has_object, has_ns, is_ns_path, is_path_item, is_absent, has_name, is_open_of, is_reload, is_reloading, reloads_object, can_end}
use Rattle.machine_laws.specs.Bones.{Module, Body, bones, module_bone, body_bone, is_named, counts_in, opens, held, held_by}
use Rattle.machine_laws.proofs.Counts.{bit}
use Rattle.machine_laws.proofs.Lists.{within}
use Rattle.machine_laws.proofs.Same.{get_map, map_at}
use Rattle.machine_laws.proofs.Leave.{opens_of}
use Rattle.machine_shown.specs.Holdings.{Holding, Taken, Loading, Reloading}
use Rattle.machine_shown.specs.Shown.{Shown, modules_in, loads_in}
use Rattle.machine_shown.specs.Knowing.{Has, HasAll, HasMid, HasName, KnowsAll, KnowsItems, KnowsSlot, MayBeSearched, MayAdd, MayBeLazy, MayBeMain, Enough}
use Rattle.machine_allows.proofs.Values.{all_there, all_made, names_are, items_are, mapped_items, all_has, made_all}
use Rattle.machine_allows.proofs.Times.{times, has_times}
use Rattle.machine_allows.proofs.Maps.{any_value, any_found}
use Rattle.machine_allows.proofs.Spaces.{same_path}
use Rattle.machine_allows.proofs.Agreeing.{opened_by, reloads_by, Agrees}
use Rattle.machine_allows.proofs.Along.{Whole, Exists}

-- Kinds of specs, values and slots.

text_from : (kind : SpecKind) (text : List ℕ) → MayAdd kind text → has_text kind text ≡ true
text_from kinds.Builtin text h = absurd h
text_from (kinds.Source file) text h = refl
text_from (kinds.Package file path) text h = refl
text_from (kinds.Namespace path) text h = ap (λ z. length z == 0) h

body_from : (kind : SpecKind) → MayBeLazy kind → has_body kind ≡ true
body_from kinds.Builtin h = absurd h
body_from (kinds.Source file) h = refl
body_from (kinds.Package file path) h = refl
body_from (kinds.Namespace path) h = absurd h

source_from : (kind : SpecKind) → MayBeMain kind → is_source kind ≡ true
source_from kinds.Builtin h = absurd h
source_from (kinds.Source file) h = refl
source_from (kinds.Package file path) h = absurd h
source_from (kinds.Namespace path) h = absurd h

item_layer : (x : Value-F Value) → MayBeSearched (roll-Value x) → is_path_item (roll-Value x) ≡ true
unfolding roll-Value denote.Hole.Carrier.roll
item_layer Value-F.Nothing h = refl
item_layer (Value-F.Bool b) h = refl
item_layer (Value-F.Int n) h = refl
item_layer (Value-F.Text text) h = refl
item_layer (Value-F.List items) h = refl
item_layer (Value-F.Tuple items) h = refl
item_layer (Value-F.Func load index name) h = refl
item_layer (Value-F.Native native) h = refl
item_layer (Value-F.Kind kind) h = refl
item_layer (Value-F.Module m) h = refl
item_layer (Value-F.Error error) h = refl
item_layer Value-F.SysModules h = absurd h
item_layer Value-F.SysPath h = absurd h
item_layer Value-F.NsPath h = absurd h

item_from : (v : Value) → MayBeSearched v → is_path_item v ≡ true
item_from v = subst (λ (z : Value). MayBeSearched z → is_path_item z ≡ true) (roll-out-Value v) (item_layer (out-Value v))

-- Tests that a count decides.

spare_from : (t k : ℕ) (o : Option Lock) → k < held_by t o → spare_of t k o ≡ true
spare_from t k None h = absurd (omega arith)
spare_from t k (Some lock) h =
    elim (eqb lock.owner t) as (λ c. k < cond c lock.count 0 → c && ltb k lock.count ≡ true) [
      | true ↦ λ less. lt-ltb k lock.count less
      | false ↦ λ less. absurd (omega arith)
    ] h

one_bit : (c : Bool) → 0 < bit c → c ≡ true
one_bit true h = refl
one_bit false h = absurd (omega arith)

no_bit : (c : Bool) → bit c ≡ 0 → c ≡ true → ⊥
no_bit true h p = absurd (omega arith)
no_bit false h p = false≢true p

finish_same : (t : ℕ) (o : Option Load) → opened_by t (option_map body_bone o) ≡ can_finish t o
finish_same t None = refl
finish_same t (Some l) = refl

reload_same : (s : State) (t mid : ℕ) (load : Option ℕ) (o : Option Object) → reloads_by s.table.reloading t mid load (option_map module_bone o) ≡ reloads_object s t mid load o
reload_same s t mid load None = refl
reload_same s t mid load (Some o) = refl

zero_sum : {X : Type 0} (f : X → ℕ) (xs : List X) → ((i : ℕ) (x : X) → slice_get xs i ≡ Some x → f x ≡ 0) → sum_by f xs ≡ 0
zero_sum f [] h = refl
zero_sum f (x ∷ xs) h = let here = h zero x refl in let rest = zero_sum f xs (λ i y is. h (suc i) y is) in sum_by-cons f x xs ∙ omega arith

not_main_kind : (kind : LoadKind) → is_main kind ≡ false → is_imported kind ≡ false → kind ≡ load_kinds.Reload
not_main_kind load_kinds.Main h k = absurd (false≢true (sym h))
not_main_kind load_kinds.Plain h k = absurd (false≢true (sym k))
not_main_kind load_kinds.Lazy h k = absurd (false≢true (sym k))
not_main_kind load_kinds.Reload h k = refl

untrue : (b : Bool) → (b ≡ true → ⊥) → b ≡ false
untrue true h = absurd (h refl)
untrue false h = refl

not_true : (b : Bool) → not b ≡ true → b ≡ false
not_true true h = absurd (false≢true h)
not_true false h = refl

module _ (s : State) (w : Whole s) (t : ℕ) (k : Shown) (g : Agrees (bones s) t k.held k.doing) (x : Exists s k) where
  -- What exists.
  module_at : (m : ModRef) → is_module s.table m ≡ true → (o : Object) × (slice_get s.table.objects m.mid ≡ Some o) × (o.spec.name ≡ m.name)
  module_at m h = by (slice_get s.table.objects m.mid) refl h
    where
      by : (o : Option Object) → slice_get s.table.objects m.mid ≡ o → is_module_of m o ≡ true → (o : Object) × (slice_get s.table.objects m.mid ≡ Some o) × (o.spec.name ≡ m.name)
      by None is h = absurd (false≢true h)
      by (Some o) is h = (o, is, (bytes_eq-Decides o.spec.name m.name).0 (and_parts (pointwise nat_eq o.spec.name m.name) (is_place_of o.spec.kind m.place) h).0)

  object_from : (mid : ℕ) → HasMid k mid → has_object s mid ≡ true
  object_from mid (inl has) = lt-ltb mid (length s.table.objects) (x.mids mid has)
  object_from mid (inr (m, has, same)) =
      let o = module_at m (x.modules m has) in
      lt-ltb mid (length s.table.objects) (subst (λ z. z < length s.table.objects) same (within s.table.objects m.mid o.0 o.1))

  name_from : (mid : ℕ) (n : List ℕ) → HasName k mid n → has_name (slice_get s.table.objects mid) n ≡ true
  name_from mid n (m, has, same, named) =
      let o = module_at m (x.modules m has) in
      ap (λ z. has_name (slice_get s.table.objects z) n) (sym same) ∙ ap (λ z. has_name z n) o.1 ∙ ap (λ z. pointwise nat_eq z n) (o.2 ∙ named) ∙ nat_list_eq_equiv.refl n

  there_from : (ms : List ModRef) (ls : List ℕ) → HasAll k.modules ms × HasAll k.loads ls → all_there s.table ms && all_made s.table ls ≡ true
  there_from ms ls h = and_from (all_there s.table ms) (all_made s.table ls) (all_has (is_module s.table) k.modules ms x.modules h.0) (made_all s.table k.loads ls x.loads h.1)

  names_from : (v : Value) → KnowsAll k v → names_modules s.table v ≡ true
  names_from v h = names_are s.table v ∙ there_from (modules_in v) (loads_in v) h

  items_from : (items : List Value) → KnowsItems k items → list_all (λ b. b) (map (names_modules s.table) items) ≡ true
  items_from items h = mapped_items s.table items ∙ items_are s.table items ∙ there_from (flat_map modules_in items) (flat_map loads_in items) h

  slot_from : (slot : Slot) → KnowsSlot k slot → not (is_absent slot) && slot_names_module s.table slot ≡ true
  slot_from slots.Absent h = absurd h
  slot_from slots.Halted h = refl
  slot_from (slots.Module m) h = x.modules m h

  -- What is held.
  spare_there : (n : List ℕ) → Has k.held (Taken n) → has_spare s t n ≡ true
  spare_there n h =
      let some = has_times (Taken n) k.held h in
      let here = g.takes n in
      let count = opens_of s t n in
      let less : count_by (counts_for s.table t n) s.table.loads < held s.locks t n = subst (λ z. z < held s.locks t n) count (omega arith) in
      spare_from t (count_by (counts_for s.table t n) s.table.loads) (lock_of s.locks n) less

  finish_there : (load : ℕ) → Has k.held (Loading load) → can_finish t (slice_get s.table.loads load) ≡ true
  finish_there load h =
      let some = has_times (Loading load) k.held h in
      let here = g.bodies load in
      sym (finish_same t (slice_get s.table.loads load)) ∙ ap (opened_by t) (sym (get_map body_bone s.table.loads load)) ∙ one_bit (opened_by t (slice_get (bones s).bodies load)) (omega arith)

  reload_there : (mid : ℕ) (load : Option ℕ) → Has k.held (Reloading mid load) → is_reloading s t mid load ≡ true
  reload_there mid load h =
      let some = has_times (Reloading mid load) k.held h in
      let here = g.reloads mid load in
      sym (reload_same s t mid load (slice_get s.table.objects mid)) ∙ ap (reloads_by s.table.reloading t mid load) (sym (get_map module_bone s.table.objects mid))
      ∙ one_bit (reloads_by s.table.reloading t mid load (slice_get (bones s).modules mid)) (omega arith)

  -- Who holds nothing may end.
  module _ (nothing : k.held ≡ []) where
    no_times : (h : Holding) → times h k.held ≡ 0
    no_times h = ap (times h) nothing

    no_reload : (n : List ℕ) (r : Reload) → get s.table.reloading n ≡ Some r → r.thread ≡ t → ⊥
    no_reload n r is own =
        let fits_it = w.sound.reloads n r is in
        let m : Module = fits_it.0 in
        let none : bit (reloads_by s.table.reloading t r.mid r.load (slice_get (bones s).modules r.mid)) ≡ 0 = sym (g.reloads r.mid r.load) ∙ no_times (Reloading r.mid r.load) in
        let one : reloads_by s.table.reloading t r.mid r.load (slice_get (bones s).modules r.mid) ≡ true =
        ap (reloads_by s.table.reloading t r.mid r.load) fits_it.1 ∙ ap (λ z. is_reload t r.mid r.load (get s.table.reloading z)) fits_it.2 ∙ ap (is_reload t r.mid r.load) is
        ∙ and_from ((r.thread == t) && (r.mid == r.mid)) (is_same_load r.load r.load) (and_from (r.thread == t) (r.mid == r.mid) (eq-eqb r.thread t own) (eq-eqb r.mid r.mid refl)) (same_load_self r.load) in
        no_bit (reloads_by s.table.reloading t r.mid r.load (slice_get (bones s).modules r.mid)) none one

    no_open : (i : ℕ) (l : Body) → slice_get (bones s).bodies i ≡ Some l → is_open l.stage ≡ true → is_main l.kind ≡ false → l.thread ≡ t → ⊥
    no_open i l is opened main own =
        elim (is_imported l.kind) as (λ c. is_imported l.kind ≡ c → ⊥) [
          | true ↦ λ p.
              let none : bit (opened_by t (slice_get (bones s).bodies i)) ≡ 0 = sym (g.bodies i) ∙ no_times (Loading i) in
              let one : opened_by t (slice_get (bones s).bodies i) ≡ true = ap (opened_by t) is ∙ and_from (is_open l.stage && (l.thread == t)) (is_imported l.kind) (and_from (is_open l.stage) (l.thread == t) opened (eq-eqb l.thread t own)) p in
              no_bit (opened_by t (slice_get (bones s).bodies i)) none one
          | false ↦ λ p.
              let back = w.backed.again i l is opened (not_main_kind l.kind main p) in
              no_reload back.0 (record { thread = l.thread; mid = l.mid; load = Some i }) back.1 own
        ] refl

    no_opens : (n : List ℕ) → opens (bones s) t n ≡ 0
    no_opens n =
        zero_sum (λ l. bit (counts_in (bones s) t n l)) (bones s).bodies
        (λ i l is. elim (counts_in (bones s) t n l) as (λ c. counts_in (bones s) t n l ≡ c → bit c ≡ 0) [
          | true ↦ λ p.
              let parts = and_parts (is_open l.stage && (l.thread == t) && not (is_main l.kind)) (is_named (slice_get (bones s).modules l.mid) n) p in
              let front = and_parts (is_open l.stage && (l.thread == t)) (not (is_main l.kind)) parts.0 in
              let who = and_parts (is_open l.stage) (l.thread == t) front.0 in
              absurd (no_open i l is who.0 (not_true (is_main l.kind) front.1) (eqb-true l.thread t who.1))
          | false ↦ λ p. refl
        ] refl)

    no_lock : owns_any s.locks t ≡ false
    no_lock =
        untrue (owns_any s.locks t) (λ h.
        let at = any_value (slice_cmp nat_cmp) nat_list_cmp_total s.locks.locks (λ (lock : Lock). lock.owner == t) h in
        let count = w.backed.counts at.0 at.1 at.2 in
        let here : held s.locks t at.0 ≡ at.1.count = ap (held_by t) at.2 ∙ ap (λ c. cond c at.1.count 0) at.3 in
        let takes = g.takes at.0 in
        let none = no_times (Taken at.0) in
        let opens_none = no_opens at.0 in
        absurd (omega arith))

    no_reloads : reloads s.table t ≡ false
    no_reloads =
        untrue (reloads s.table t) (λ h.
        let at = any_value (slice_cmp nat_cmp) nat_list_cmp_total s.table.reloading (λ (r : Reload). r.thread == t) h in
        no_reload at.0 at.1 at.2 (eqb-true at.1.thread t at.3))

    no_bodies : list_any (is_open_of t) s.table.loads ≡ false
    no_bodies =
        untrue (list_any (is_open_of t) s.table.loads) (λ h.
        let at = any_found (is_open_of t) s.table.loads h in
        let l : Load = at.1 in
        let front = and_parts (is_open l.stage && (l.thread == t)) (not (is_main l.kind)) at.3 in
        let who = and_parts (is_open l.stage) (l.thread == t) front.0 in
        no_open at.0 (body_bone l) (map_at body_bone s.table.loads at.0 l at.2) who.0 (not_true (is_main l.kind) front.1) (eqb-true l.thread t who.1))

    end_from : can_end s t ≡ true
    end_from =
        and_from (not (owns_any s.locks t) && not (reloads s.table t)) (not (list_any (is_open_of t) s.table.loads))
        (and_from (not (owns_any s.locks t)) (not (reloads s.table t)) (ap not no_lock) (ap not no_reloads)) (ap not no_bodies)

  pub fits_from : (e : Event) → Enough k e → fits s t e ≡ true
  fits_from (events.Ask n) h = refl
  fits_from (events.Take n) h = refl
  fits_from events.Wake h = absurd h
  fits_from (events.Add spec text) h = and_from (has_spare s t spec.name) (has_text spec.kind text) (spare_there spec.name h.0) (text_from spec.kind text h.1)
  fits_from (events.Finish load good) h = finish_there load h
  fits_from (events.Release n) h = spare_there n h
  fits_from (events.GetVar mid y raw) h = object_from mid h
  fits_from (events.SetVar raw mid y v) h =
      and_from (has_object s mid && not (is_ns_path v)) (names_modules s.table v) (and_from (has_object s mid) (not (is_ns_path v)) (object_from mid h.0) (ap not (sym (same_path v) ∙ h.1))) (names_from v h.2)
  fits_from (events.DelVar mid y raw) h = object_from mid h
  fits_from (events.Names mid) h = object_from mid h
  fits_from (events.Source load) h = lt-ltb load (length s.table.loads) (x.loads load h)
  fits_from (events.Print text) h = short (length text) h
    where
      short : (n : ℕ) → n ≤ 65536 → leb n 65536 ≡ true
      short n h = le-leb n 65536 h
  fits_from events.PathGet h = refl
  fits_from (events.PathAdd at v) h = and_from (is_path_item v) (names_modules s.table v) (item_from v h.0) (names_from v h.1)
  fits_from (events.DirGet dir part) h = refl
  fits_from (events.DirSet dir listing) h = refl
  fits_from events.Invalidate h = refl
  fits_from (events.NsGet mid) h = x.spaces mid h
  fits_from (events.NsSet mid state) h = and_from (has_ns (slice_get s.table.objects mid)) (list_all (λ b. b) (map (names_modules s.table) state.parent_path)) (x.spaces mid h.0) (items_from state.parent_path h.1)
  fits_from (events.TabGet n) h = refl
  fits_from (events.TabSet n slot) h = slot_from slot h
  fits_from (events.TabDel n) h = refl
  fits_from (events.ReloadBegin mid raw) h = object_from mid h
  fits_from (events.ReloadTake mid spec text) h =
      and_from (is_reloading s t mid None && has_name (slice_get s.table.objects mid) spec.name) (has_text spec.kind text)
      (and_from (is_reloading s t mid None) (has_name (slice_get s.table.objects mid) spec.name) (reload_there mid None h.0) (name_from mid spec.name h.1)) (text_from spec.kind text h.2)
  fits_from (events.ReloadEnd mid load) h = reload_there mid load h
  fits_from (events.AddLazy spec text) h = and_from (has_spare s t spec.name) (has_body spec.kind) (spare_there spec.name h.0) (body_from spec.kind h.1)
  fits_from (events.Rouse mid) h = object_from mid h
  fits_from (events.Main spec text) h = source_from spec.kind h
  fits_from (events.End outcome spent) h = end_from h
