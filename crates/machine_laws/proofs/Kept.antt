-- What holds in every state is kept by every event.
use Rattle.std.proofs.Common.{◌≡◌, ℕ, ◌+◌, Bool, true, false, cond, ◌&&◌, List, length, Option, Some, None, refl, sym, ap, subst, ◌∙◌, arith}
use Rattle.std.specs.Prelude.{ℤ, ◌==◌, slice_get, not, nat_lt}
use Rattle.std.specs.FinMap.{get}
use Rattle.std.proofs.lemmas.Bool.{and_parts, false≢true, eqb-true}
use Rattle.py_value.specs.declared.value.Value.{Value}
use Rattle.py_value.specs.declared.value.ModRef.{ModRef}
use Rattle.spec_core.specs.Names.{parent_of}
use Rattle.spec_core.specs.declared.spec.Spec.{Spec}
use Rattle.machine_events.specs.declared.module.Slot.{Slot}
use Rattle.machine_events.specs.declared.module.Slot.TheVariants as slots
use Rattle.machine_events.specs.declared.event.Reply.{Reply}
use Rattle.machine_events.specs.declared.event.Reply.TheVariants as replies
use Rattle.module_lock.specs.Table.{closes, is_free, owns, waiting, given}
use Rattle.module_lock.proofs.Kept.{acyclic-waiting}
use Rattle.module_table.specs.Vars.{var_of}
use Rattle.module_table.specs.declared.module.Object.{Object}
use Rattle.module_table.specs.declared.module.Load.{Load}
use Rattle.module_table.specs.declared.module.LoadKind.{LoadKind}
use Rattle.module_table.specs.declared.module.LoadKind.TheVariants as load_kinds
use Rattle.module_table.specs.declared.module.LoadStage.TheVariants as stages
use Rattle.module_table.specs.declared.module.Phase.TheVariants as phases
use Rattle.machine_spec.specs.declared.state.State.{State}
use Rattle.machine_spec.specs.Parts.{is_initialising, is_built_in, is_built_in_place, is_open, is_main, is_imported}
use Rattle.machine_spec.specs.Waits.{wait_on, ask_object, ask_none, ask_slot, take_name}
use Rattle.machine_spec.specs.Bodies.{add, bound, bind_under, bind_parent, good_entry, finish_entry, closed, finish_object, finish_load}
use Rattle.machine_spec.specs.Variables.{sleeping, set_on, del_found, del_on}
use Rattle.machine_spec.specs.Cache.{is_fixed, tab_set, tab_del}
use Rattle.machine_spec.specs.Search.{path_add}
use Rattle.machine_spec.specs.Lazies.{add_lazy}
use Rattle.machine_spec.specs.Allowed.{can_finish, has_spare}
use Rattle.machine_laws.specs.Bones.{Bones, bones}
use Rattle.machine_laws.specs.Sound.{AreSound, IsSound}
use Rattle.machine_laws.specs.Bones.{Module, Body, module_bone, body_bone, counts_in, opens}
use Rattle.machine_laws.specs.Sound.{IsRunning}
use Rattle.machine_laws.proofs.Same.{either, changed_map, map_at}
use Rattle.module_table.specs.Lists.{changed}
use Rattle.machine_laws.proofs.Lists.{changed_is}
use Rattle.machine_laws.proofs.Counts.{bit, counts_there}
use Rattle.machine_laws.proofs.Facts.{sound_locked, sound_got, sound_given}
use Rattle.machine_laws.proofs.Changes.{sound_made, covered_made, opens_made}
use Rattle.machine_laws.proofs.Stages.{staged, opens_staged, sound_staged}
use Rattle.machine_laws.proofs.Leave.{spare}
use Rattle.machine_laws.proofs.Moves.{made, set_same, deleted_same, made_is}

-- what an event leaves is sound
abbrev pub Keeps : Reply × State → Type 0
Keeps p = IsSound p.1

-- an event that leaves the bones as they are
abbrev Quiet : State → Reply × State → Type 0
Quiet s p = bones p.1 ≡ bones s

pub quiet : (s : State) → IsSound s → (p : Reply × State) → Quiet s p → Keeps p
quiet s sound p is = subst AreSound (sym is) sound

module _ (s : State) (sound : IsSound s) (t : ℕ) where
  pub waits_on : (n : List ℕ) (blocked : Reply) → Keeps (wait_on s t n blocked)
  waits_on n blocked =
      elim (closes s.locks t n) as (λ b. closes s.locks t n ≡ b → AreSound (record (bones s) { locks = cond b s.locks (waiting s.locks t n) })) [
        | true ↦ λ _. sound
        | false ↦ λ free. sound_locked (bones s) sound (waiting s.locks t n) (acyclic-waiting s.locks sound.acyclic t n free) refl
      ] refl

  asks_object : (m : ModRef) (o : Option Object) → Keeps (ask_object s t m o)
  asks_object m None = sound
  asks_object m (Some o) = either Keeps (is_initialising o.phase && not (owns s.locks t o.spec.name)) _ _ (waits_on o.spec.name (replies.Cycle m)) sound

  -- what is missing is asked for where the lock is free
  asks_none : (n : List ℕ) (missing : Reply × State) → (is_free s.locks t n ≡ true → Keeps missing) → Keeps (ask_none s t n missing)
  asks_none n missing h =
      elim (is_free s.locks t n) as (λ b. is_free s.locks t n ≡ b → Keeps (cond b missing (wait_on s t n replies.Deadlock))) [
        | true ↦ h
        | false ↦ λ _. waits_on n replies.Deadlock
      ] refl

  pub asks_slot : (n : List ℕ) (missing : Reply × State) → (is_free s.locks t n ≡ true → Keeps missing) → (slot : Option Slot) → Keeps (ask_slot s t n missing slot)
  asks_slot n missing h None = asks_none n missing h
  asks_slot n missing h (Some slots.Absent) = asks_none n missing h
  asks_slot n missing h (Some slots.Halted) = sound
  asks_slot n missing h (Some (slots.Module m)) = asks_object m (slice_get s.table.objects m.mid)

  pub takes : (n : List ℕ) → get s.locks.waits t ≡ None → IsRunning (bones s) t → Keeps (take_name s t n)
  takes n idle_now running = asks_slot n _ (λ free. sound_got (bones s) sound t n free idle_now running) (get s.table.cache n)

module _ (s : State) (t : ℕ) where
  pub sets_on : (mid : ℕ) (x : List ℕ) (v : Value) (raw : Bool) (o : Option Object) → Quiet s (set_on s t mid x v raw o)
  sets_on mid x v raw None = refl
  sets_on mid x v raw (Some o) =
      either (Quiet s) (is_built_in o.spec.kind) _ _ refl (either (Quiet s) (sleeping s t raw o) _ _ refl (set_same s mid x v))

  deletes_found : (mid : ℕ) (x : List ℕ) (o : Object) (v : Option Value) → Quiet s (del_found s mid x o v)
  deletes_found mid x o None = refl
  deletes_found mid x o (Some v) = deleted_same s mid x

  pub deletes_on : (mid : ℕ) (x : List ℕ) (raw : Bool) (o : Option Object) → Quiet s (del_on s t mid x raw o)
  deletes_on mid x raw None = refl
  deletes_on mid x raw (Some o) =
      either (Quiet s) (is_built_in o.spec.kind) _ _ refl
      (either (Quiet s) (sleeping s t raw o) _ _ refl (deletes_found mid x o (var_of o.vars x)))

  pub sets_tab : (n : List ℕ) (slot : Slot) → Quiet s (tab_set s n slot)
  sets_tab n slot = either (Quiet s) (is_fixed n) _ _ refl refl

  pub deletes_tab : (n : List ℕ) → Quiet s (tab_del s n)
  deletes_tab n = either (Quiet s) (is_fixed n) _ _ refl refl

  pub adds_path : (at : Option ℤ) (v : Value) → Quiet s (path_add s at v)
  adds_path at v = either (λ table. bones (record s { table = table }) ≡ bones s) (nat_lt (length s.table.path) 4096) _ _ refl refl

  binds : (n : List ℕ) (entry parent : Slot) → bones (bound s n entry parent) ≡ bones s
  binds n entry slots.Absent = refl
  binds n entry slots.Halted = refl
  binds n entry (slots.Module m) = either (λ z. bones z ≡ bones s) (is_built_in_place m.place) _ _ refl (set_same s m.mid _ _)

  binds_under : (n : List ℕ) (entry : Slot) (parent : Option Slot) → Quiet s (bind_under s n entry parent)
  binds_under n entry None = refl
  binds_under n entry (Some parent) = binds n entry parent

  binds_parent : (n : List ℕ) (entry : Slot) (parent : Option (List ℕ)) → Quiet s (bind_parent s n entry parent)
  binds_parent n entry None = refl
  binds_parent n entry (Some parent) = binds_under n entry (get s.table.cache parent)

  good_entries : (kind : LoadKind) (n : List ℕ) (entry : Option Slot) → Quiet s (good_entry s kind n entry)
  good_entries load_kinds.Plain n None = refl
  good_entries load_kinds.Plain n (Some entry) = binds_parent n entry (parent_of n)
  good_entries load_kinds.Main n entry = refl
  good_entries load_kinds.Lazy n entry = refl
  good_entries load_kinds.Reload n entry = refl

  pub finishes_entry : (kind : LoadKind) (good : Bool) (n : List ℕ) → Quiet s (finish_entry s kind good n)
  finishes_entry kind good n = either (Quiet s) good _ _ (good_entries kind n (get s.table.cache n)) refl

pub not_main : (kind : LoadKind) → is_imported kind ≡ true → is_main kind ≡ false
not_main load_kinds.Main h = absurd (false≢true h)
not_main load_kinds.Plain h = refl
not_main load_kinds.Lazy h = refl
not_main load_kinds.Reload h = refl

-- a load ends, its module is ready, and the lock is given back once
abbrev closed_bones : ℕ → ℕ → ℕ → List ℕ → Bones → Bones
closed_bones t load mid n b = record b {
  bodies = changed (λ l. record l { stage = stages.Ended }) b.bodies load;
  modules = changed (λ m. record m { phase = phases.Ready }) b.modules mid;
  locks = given b.locks t n;
}

closed_is : (s : State) (t load mid : ℕ) (n : List ℕ) → bones (closed t load mid n s) ≡ closed_bones t load mid n (bones s)
closed_is s t load mid n =
    ap (λ ls. record (bones (closed t load mid n s)) { bodies = ls }) (changed_map body_bone _ (λ (l : Body). record l { stage = stages.Ended }) (λ l. refl) s.table.loads load)
    ∙ ap (λ ms. record (closed_bones t load mid n (bones s)) { modules = ms }) (changed_map module_bone _ (λ (m : Module). record m { phase = phases.Ready }) (λ o. refl) s.table.objects mid)

module _ (s : State) (sound : IsSound s) (t : ℕ) where
  sound_closed : (load : ℕ) (l : Load) (o : Object) → slice_get s.table.loads load ≡ Some l → slice_get s.table.objects l.mid ≡ Some o → is_open l.stage ≡ true → l.thread ≡ t → is_imported l.kind ≡ true
      → AreSound (closed_bones t load l.mid o.spec.name (bones s))
  sound_closed load l o is is_object opened own imported =
      let b = bones s in
      let body = body_bone l in
      let own_module = module_bone o in
      let at : slice_get b.bodies load ≡ Some body = map_at body_bone s.table.loads load l is in
      let there : slice_get b.modules l.mid ≡ Some own_module = map_at module_bone s.table.objects l.mid o is_object in
      let after = staged b sound load body own_module at there imported l.thread stages.Ended in
      let counts : counts_in b l.thread own_module.name body ≡ true = counts_there b body own_module there opened (not_main l.kind imported) in
      let total : (u : ℕ) (n : List ℕ) → opens after u n + bit (counts_in b u n body) ≡ opens b u n + 0 = opens_staged b sound load body own_module at there imported l.thread stages.Ended in
      let less : opens after l.thread own_module.name + 1 ≡ opens b l.thread own_module.name + 0 = ap (λ c. opens after l.thread own_module.name + bit c) (sym counts) ∙ total l.thread own_module.name in
      let most = sound.covered l.thread own_module.name in
      let kept : AreSound after = sound_staged b sound load body own_module at there imported l.thread stages.Ended (λ u n. let e = total u n in let c = sound.covered u n in omega arith) (λ h. absurd (false≢true h)) in
      let done : AreSound (record after { locks = given b.locks l.thread own_module.name }) = sound_given after kept l.thread own_module.name (omega arith) in
      let same_bodies = changed_is (λ (l : Body). record l { stage = stages.Ended }) b.bodies load body at in
      let same_modules = changed_is (λ (m : Module). record m { phase = phases.Ready }) b.modules l.mid own_module there in
      subst (λ u. AreSound (closed_bones u load l.mid o.spec.name b)) own
      (subst AreSound (sym (ap (λ ls. record (closed_bones l.thread load l.mid o.spec.name b) { bodies = ls }) same_bodies ∙ ap (λ ms. record after { locks = given b.locks l.thread own_module.name; modules = ms }) same_modules)) done)

  finishes_object : (load : ℕ) (good : Bool) (l : Load) (o : Option Object) → slice_get s.table.loads load ≡ Some l → slice_get s.table.objects l.mid ≡ o → can_finish t (Some l) ≡ true → Keeps (finish_object s t load good l o)
  finishes_object load good l None is is_object can = sound
  finishes_object load good l (Some o) is is_object can =
      let parts = and_parts (is_open l.stage && (l.thread == t)) (is_imported l.kind) can in
      let opened = and_parts (is_open l.stage) (l.thread == t) parts.0 in
      subst AreSound (sym (closed_is (finish_entry s l.kind good o.spec.name).1 t load l.mid o.spec.name ∙ ap (closed_bones t load l.mid o.spec.name) (finishes_entry s t l.kind good o.spec.name)))
      (sound_closed load l o is is_object opened.0 (eqb-true l.thread t opened.1) parts.1)

  pub finishes_load : (load : ℕ) (good : Bool) (l : Option Load) → slice_get s.table.loads load ≡ l → can_finish t l ≡ true → Keeps (finish_load s t load good l)
  finishes_load load good None is can = sound
  finishes_load load good (Some l) is can = finishes_object load good l (slice_get s.table.objects l.mid) is refl can

  pub adds : (spec : Spec) (text : List ℕ) → has_spare s t spec.name ≡ true → IsRunning (bones s) t → Keeps (add s t spec text)
  adds spec text h running =
      subst AreSound (sym (made_is s spec phases.Initialising load_kinds.Plain t text stages.Open))
      (sound_made (bones s) sound t spec.name load_kinds.Plain stages.Open refl running.going
      (covered_made (bones s) sound t spec.name load_kinds.Plain stages.Open refl running.going (spare s t spec.name h)))

  pub adds_lazy : (spec : Spec) (text : List ℕ) → has_spare s t spec.name ≡ true → IsRunning (bones s) t → Keeps (add_lazy s t spec text)
  adds_lazy spec text h running =
      let b = bones s in
      let after = made b t spec.name phases.Lazy load_kinds.Lazy stages.Resting in
      let total : (u : ℕ) (m : List ℕ) → opens after u m ≡ opens b u m + 0 = opens_made b sound t spec.name load_kinds.Lazy stages.Resting refl running.going in
      let kept : AreSound after = sound_made b sound t spec.name load_kinds.Lazy stages.Resting refl running.going (λ u m. let e = total u m in let c = sound.covered u m in omega arith) in
      let more = spare s t spec.name h in
      let here = total t spec.name in
      subst AreSound (sym (ap (λ (c : Bones). record c { locks = given s.locks t spec.name }) (made_is s spec phases.Lazy load_kinds.Lazy t text stages.Resting)))
      (sound_given after kept t spec.name (omega arith))
