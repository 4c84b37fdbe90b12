-- Every reply of the machine is of a kind that the table of events gives for its event.
use Rattle.std.proofs.Common.{◌≡◌, ℕ, Bool, true, false, cond, ◌&&◌, List, length, Option, Some, None, inl, inr, arith, refl, sym, ap, subst, ◌∙◌}
use Rattle.std.specs.Prelude.{IsTrue, slice_get, not, nat_lt, is_some}
use Rattle.std.specs.FinMap.{get}
use Rattle.std.proofs.lemmas.Bool.{false≢true, ltb-true}
use Rattle.std.proofs.lemmas.Option.{slice_get_cases}
use Rattle.py_value.specs.declared.value.Value.{Value}
use Rattle.py_value.specs.declared.value.ModRef.{ModRef}
use Rattle.py_value.specs.declared.value.NsState.{NsState}
use Rattle.spec_core.specs.Names.{parent_of}
use Rattle.spec_core.specs.declared.spec.Spec.{Spec}
use Rattle.machine_events.specs.declared.module.Slot.{Slot}
use Rattle.machine_events.specs.declared.module.Slot.TheVariants as slots
use Rattle.machine_events.specs.declared.event.Event.{Event}
use Rattle.machine_events.specs.declared.event.Event.TheVariants as events
use Rattle.machine_events.specs.declared.event.Reply.{Reply}
use Rattle.machine_events.specs.declared.event.Reply.TheVariants as replies
use Rattle.machine_events.specs.Fitting.{Fits, IsAsked, IsTaken, IsFinished, IsRead, IsSet, IsDeleted, IsNames, IsLoaded, IsAdded, IsListing, IsNs, IsEntered, IsDropped, IsBegun, IsReloading, IsReloaded, IsRoused}
use Rattle.base_types.specs.declared.path.Listing.{Listing}
use Rattle.module_lock.specs.Table.{closes, is_free, owns, got}
use Rattle.module_table.specs.Vars.{var_of}
use Rattle.module_table.specs.declared.module.Object.{Object}
use Rattle.module_table.specs.declared.module.Load.{Load}
use Rattle.module_table.specs.declared.module.LoadKind.{LoadKind}
use Rattle.module_table.specs.declared.module.LoadKind.TheVariants as load_kinds
use Rattle.module_table.specs.declared.module.Phase.{Phase}
use Rattle.module_table.specs.declared.module.Phase.TheVariants as phases
use Rattle.module_table.specs.declared.module.Reload.{Reload}
use Rattle.machine_spec.specs.declared.state.State.{State}
use Rattle.machine_spec.specs.Parts.{is_initialising, is_built_in}
use Rattle.machine_spec.specs.Waits.{wait_on, ask_object, ask_none, ask_slot}
use Rattle.machine_spec.specs.Bodies.{bind_under, bind_parent, good_entry, finish_entry, finish_object, finish_load, loaded_by, loaded_from}
use Rattle.machine_spec.specs.Variables.{sleeping, value_reply, get_reply, set_on, del_found, del_on, names_reply}
use Rattle.machine_spec.specs.Search.{listing_reply, ns_of, ns_reply}
use Rattle.machine_spec.specs.Cache.{is_fixed}
use Rattle.machine_spec.specs.Reloads.{is_entry, busy_of, enter, reload_begin_on, reload_take, kept_or_lost, reload_leave, reload_end_on}
use Rattle.machine_spec.specs.Lazies.{open_lazy, rouse_lazy, rouse_phase, rouse_on}
use Rattle.machine_spec.specs.Step.{step}
use Rattle.machine_spec.specs.Allowed.{allowed, can_finish, has_ns, reloads_object}
use Rattle.machine_laws.specs.Bones.{module_bone, body_bone}
use Rattle.machine_laws.specs.Sound.{IsSound}
use Rattle.machine_laws.proofs.Same.{either, map_at, unmap}
use Rattle.machine_laws.proofs.Leave.{fitting}

waits_on : (P : Reply → Type 0) (s : State) (t : ℕ) (n : List ℕ) (blocked : Reply) → P blocked → P (replies.Wait n) → P (wait_on s t n blocked).0
waits_on P s t n blocked h k = either P (closes s.locks t n) blocked (replies.Wait n) h k

-- Ask and Take
module _ (P : Reply → Type 0) (s : State) (t : ℕ) (found : (m : ModRef) → P (replies.Module m)) (cycle : (m : ModRef) → P (replies.Cycle m)) (halted : P replies.Halted) (dead : P replies.Deadlock) (waits : (n : List ℕ) → P (replies.Wait n)) where
  asks_object : (m : ModRef) (o : Option Object) → P (ask_object s t m o).0
  asks_object m None = found m
  asks_object m (Some o) =
      either (λ (p : Reply × State). P p.0) (is_initialising o.phase && not (owns s.locks t o.spec.name)) (wait_on s t o.spec.name (replies.Cycle m)) (replies.Module m, s)
      (waits_on P s t o.spec.name (replies.Cycle m) (cycle m) (waits o.spec.name)) (found m)

  asks_none : (n : List ℕ) (missing : Reply × State) → P missing.0 → P (ask_none s t n missing).0
  asks_none n missing h =
      either (λ (p : Reply × State). P p.0) (is_free s.locks t n) missing (wait_on s t n replies.Deadlock) h (waits_on P s t n replies.Deadlock dead (waits n))

  asks_slot : (n : List ℕ) (missing : Reply × State) → P missing.0 → (slot : Option Slot) → P (ask_slot s t n missing slot).0
  asks_slot n missing h None = asks_none n missing h
  asks_slot n missing h (Some slots.Absent) = asks_none n missing h
  asks_slot n missing h (Some slots.Halted) = halted
  asks_slot n missing h (Some (slots.Module m)) = asks_object m (slice_get s.table.objects m.mid)

-- each load is of an object
object_of : (s : State) → IsSound s → (load : ℕ) (l : Load) → slice_get s.table.loads load ≡ Some l → (o : Object) × (slice_get s.table.objects l.mid ≡ Some o)
object_of s sound load l is =
    let there = sound.bodies load (body_bone l) (map_at body_bone s.table.loads load l is) in
    let at = unmap module_bone s.table.objects l.mid there.0 there.1 in
    (at.0, at.1)

bound_under : (s : State) (n : List ℕ) (entry : Slot) (parent : Option Slot) → IsFinished true (bind_under s n entry parent).0
bound_under s n entry None = refl
bound_under s n entry (Some parent) = tt

bound_to : (s : State) (n : List ℕ) (entry : Slot) (parent : Option (List ℕ)) → IsFinished true (bind_parent s n entry parent).0
bound_to s n entry None = tt
bound_to s n entry (Some parent) = bound_under s n entry (get s.table.cache parent)

good_entries : (s : State) (kind : LoadKind) (n : List ℕ) (entry : Option Slot) → IsFinished true (good_entry s kind n entry).0
good_entries s load_kinds.Plain n None = refl
good_entries s load_kinds.Plain n (Some entry) = bound_to s n entry (parent_of n)
good_entries s load_kinds.Main n entry = tt
good_entries s load_kinds.Lazy n entry = tt
good_entries s load_kinds.Reload n entry = tt

entries : (s : State) (kind : LoadKind) (good : Bool) (n : List ℕ) → IsFinished good (finish_entry s kind good n).0
entries s kind true n = good_entries s kind n (get s.table.cache n)
entries s kind false n = tt

finishes : (s : State) → IsSound s → (t load : ℕ) (good : Bool) (l : Option Load) → slice_get s.table.loads load ≡ l → can_finish t l ≡ true → IsFinished good (finish_load s t load good l).0
finishes s sound t load good None is can = absurd (false≢true can)
finishes s sound t load good (Some l) is can =
    let at = object_of s sound load l is in
    subst (λ (o : Option Object). IsFinished good (finish_object s t load good l o).0) (sym at.1) (entries s l.kind good at.0.spec.name)

loaded : (s : State) → IsSound s → (load : ℕ) (l : Option Load) → slice_get s.table.loads load ≡ l → is_some l ≡ true → IsLoaded (loaded_by s l)
loaded s sound load None is some = absurd (false≢true some)
loaded s sound load (Some l) is some =
    let at = object_of s sound load l is in
    subst (λ (o : Option Object). IsLoaded (loaded_from l o)) (sym at.1) tt

-- a module that is asleep is found so only where the event is not raw
awake : (P : Bool → Reply → Type 0) (s : State) (t : ℕ) (raw : Bool) (o : Object) (other : Reply × State) → P false replies.Sleeping → P raw other.0 → P raw (cond (sleeping s t raw o) (replies.Sleeping, s) other).0
awake P s t true o other h k = k
awake P s t false o other h k = either (λ (p : Reply × State). P false p.0) (sleeping s t false o) (replies.Sleeping, s) other h k

values : (raw : Bool) (o : Object) (v : Option Value) → IsRead raw (value_reply o v)
values raw o None = tt
values raw o (Some v) = tt

reads : (s : State) (t : ℕ) (x : List ℕ) (raw : Bool) (o : Option Object) → IsRead raw (get_reply s t x raw o)
reads s t x raw None = tt
reads s t x true (Some o) = values true o (var_of o.vars x)
reads s t x false (Some o) = either (IsRead false) (sleeping s t false o) replies.Sleeping (value_reply o (var_of o.vars x)) refl (values false o (var_of o.vars x))

sets : (s : State) (t mid : ℕ) (x : List ℕ) (v : Value) (raw : Bool) (o : Option Object) → IsSet raw (set_on s t mid x v raw o).0
sets s t mid x v raw None = tt
sets s t mid x v raw (Some o) = either (λ (p : Reply × State). IsSet raw p.0) (is_built_in o.spec.kind) _ _ tt (awake IsSet s t raw o _ refl tt)

deletes_found : (s : State) (mid : ℕ) (x : List ℕ) (raw : Bool) (o : Object) (v : Option Value) → IsDeleted raw (del_found s mid x o v).0
deletes_found s mid x raw o None = tt
deletes_found s mid x raw o (Some v) = tt

deletes : (s : State) (t mid : ℕ) (x : List ℕ) (raw : Bool) (o : Option Object) → IsDeleted raw (del_on s t mid x raw o).0
deletes s t mid x raw None = tt
deletes s t mid x raw (Some o) =
    either (λ (p : Reply × State). IsDeleted raw p.0) (is_built_in o.spec.kind) _ _ tt (awake IsDeleted s t raw o _ refl (deletes_found s mid x raw o (var_of o.vars x)))

named : (o : Option Object) → IsNames (names_reply o)
named None = tt
named (Some o) = tt

listed : (part : List ℕ) (l : Option Listing) → IsListing (listing_reply part l)
listed part None = tt
listed part (Some l) = tt

kept_state : (state : Option NsState) (epoch : ℕ) → is_some state ≡ true → IsNs (ns_of state epoch)
kept_state None epoch h = absurd (false≢true h)
kept_state (Some state) epoch h = tt

state_of : (o : Option Object) (epoch : ℕ) → has_ns o ≡ true → IsNs (ns_reply o epoch)
state_of None epoch h = absurd (false≢true h)
state_of (Some o) epoch h = kept_state o.ns epoch h

busy : (raw : Bool) (mid : ℕ) (o : Option Object) → IsBegun raw (busy_of mid o)
busy raw mid None = tt
busy raw mid (Some o) = tt

enters : (s : State) (t mid : ℕ) (n : List ℕ) (raw : Bool) (r : Option Reload) → IsBegun raw (enter s t mid n r).0
enters s t mid n raw None = tt
enters s t mid n raw (Some r) = busy raw r.mid (slice_get s.table.objects r.mid)

begins : (s : State) (t mid : ℕ) (raw : Bool) (o : Option Object) → IsBegun raw (reload_begin_on s t mid raw o).0
begins s t mid raw None = tt
begins s t mid raw (Some o) =
    either (λ (p : Reply × State). IsBegun raw p.0) (is_built_in o.spec.kind) _ _ tt (awake IsBegun s t raw o _ refl
    (either (λ (p : Reply × State). IsBegun raw p.0) (is_entry mid (get s.table.cache o.spec.name)) _ _ (enters s t mid o.spec.name raw (get s.table.reloading o.spec.name)) tt))

takes_again : (s : State) (t mid : ℕ) (spec : Spec) (text : List ℕ) → IsReloading (reload_take s t mid spec text).0
takes_again s t mid spec text =
    either (λ (p : Reply × State). IsReloading p.0) (is_free s.locks t spec.name) _ _
    (either (λ (p : Reply × State). IsReloading p.0) (is_entry mid (get s.table.cache spec.name)) _ _ tt tt)
    (waits_on IsReloading s t spec.name replies.Deadlock tt tt)

is_kept : (slot : Option Slot) → IsReloaded (kept_or_lost slot)
is_kept None = tt
is_kept (Some slot) = tt

left : (s : State) (t : ℕ) (o : Option Object) → (reload_end_on s t None o).0 ≡ replies.Done
left s t None = refl
left s t (Some o) = refl

ends : (s : State) (t mid load : ℕ) (o : Option Object) → reloads_object s t mid (Some load) o ≡ true → IsReloaded (reload_end_on s t (Some load) o).0
ends s t mid load None h = absurd (false≢true h)
ends s t mid load (Some o) h = is_kept (get s.table.cache o.spec.name)

opens : (s : State) (t mid : ℕ) (n : List ℕ) (load : ℕ) (l : Option Load) → IsRoused (open_lazy s t mid n load l).0
opens s t mid n load None = tt
opens s t mid n load (Some l) = tt

rouses_lazy : (s : State) (t mid : ℕ) (n : List ℕ) (load : Option ℕ) → IsRoused (rouse_lazy s t mid n load).0
rouses_lazy s t mid n None = tt
rouses_lazy s t mid n (Some load) =
    either (λ (p : Reply × State). IsRoused p.0) (is_free s.locks t n) _ _ (opens s t mid n load (slice_get s.table.loads load)) (waits_on IsRoused s t n replies.Deadlock tt tt)

rouses_phase : (s : State) (t mid : ℕ) (o : Object) (phase : Phase) → IsRoused (rouse_phase s t mid o phase).0
rouses_phase s t mid o phases.Ready = tt
rouses_phase s t mid o phases.Initialising =
    either (λ (p : Reply × State). IsRoused p.0) (owns s.locks t o.spec.name) _ _ tt (waits_on IsRoused s t o.spec.name _ tt tt)
rouses_phase s t mid o phases.Lazy = rouses_lazy s t mid o.spec.name o.load

rouses : (s : State) (t mid : ℕ) (o : Option Object) → IsRoused (rouse_on s t mid o).0
rouses s t mid None = tt
rouses s t mid (Some o) = rouses_phase s t mid o o.phase

there : {X : Type 0} (xs : List X) (i : ℕ) → nat_lt i (length xs) ≡ true → is_some (slice_get xs i) ≡ true
there xs i h = elim (slice_get_cases xs i).1 [
  | inl p ↦ ap is_some p.2
  | inr q ↦ absurd (let less = ltb-true i (length xs) h in omega (arith, q.0, less))
]

pub fits_step : (s : State) → IsSound s → (t : ℕ) (e : Event) → IsTrue (allowed s t e) → Fits e (step s t e).0
fits_step s sound t (events.Ask n) h = asks_slot IsAsked s t (λ m. tt) (λ m. tt) tt tt (λ n. tt) n (replies.Missing, s) tt (get s.table.cache n)
fits_step s sound t (events.Take n) h = asks_slot IsTaken s t (λ m. tt) (λ m. tt) tt tt (λ n. tt) n (replies.Mine s.table.epoch, record s { locks = got s.locks t n }) tt (get s.table.cache n)
fits_step s sound t events.Wake h = refl
fits_step s sound t (events.Add spec text) h = tt
fits_step s sound t (events.Finish load good) h = finishes s sound t load good (slice_get s.table.loads load) refl (fitting s t (events.Finish load good) h refl)
fits_step s sound t (events.Release n) h = refl
fits_step s sound t (events.GetVar mid x raw) h = reads s t x raw (slice_get s.table.objects mid)
fits_step s sound t (events.SetVar raw mid x v) h = sets s t mid x v raw (slice_get s.table.objects mid)
fits_step s sound t (events.DelVar mid x raw) h = deletes s t mid x raw (slice_get s.table.objects mid)
fits_step s sound t (events.Names mid) h = named (slice_get s.table.objects mid)
fits_step s sound t (events.Source load) h = loaded s sound load (slice_get s.table.loads load) refl (there s.table.loads load (fitting s t (events.Source load) h refl))
fits_step s sound t (events.Print text) h = refl
fits_step s sound t events.PathGet h = tt
fits_step s sound t (events.PathAdd at v) h = either IsAdded (nat_lt (length s.table.path) 4096) replies.Done replies.Full tt tt
fits_step s sound t (events.DirGet dir part) h = listed part (get s.listings dir)
fits_step s sound t (events.DirSet dir listing) h = refl
fits_step s sound t events.Invalidate h = refl
fits_step s sound t (events.NsGet mid) h = state_of (slice_get s.table.objects mid) s.table.epoch (fitting s t (events.NsGet mid) h refl)
fits_step s sound t (events.NsSet mid state) h = refl
fits_step s sound t (events.TabGet n) h = tt
fits_step s sound t (events.TabSet n slot) h = either (λ (p : Reply × State). IsEntered p.0) (is_fixed n) _ _ tt tt
fits_step s sound t (events.TabDel n) h = either (λ (p : Reply × State). IsDropped p.0) (is_fixed n) _ _ tt tt
fits_step s sound t (events.ReloadBegin mid raw) h = begins s t mid raw (slice_get s.table.objects mid)
fits_step s sound t (events.ReloadTake mid spec text) h = takes_again s t mid spec text
fits_step s sound t (events.ReloadEnd mid None) h = left s t (slice_get s.table.objects mid)
fits_step s sound t (events.ReloadEnd mid (Some load)) h = ends s t mid load (slice_get s.table.objects mid) (fitting s t (events.ReloadEnd mid (Some load)) h refl)
fits_step s sound t (events.AddLazy spec text) h = tt
fits_step s sound t (events.Rouse mid) h = rouses s t mid (slice_get s.table.objects mid)
fits_step s sound t (events.Main spec text) h = refl
fits_step s sound t (events.End outcome spent) h = refl
