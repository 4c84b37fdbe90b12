-- Every allowed event keeps it true what the threads' own pairs show them to hold.
use Rattle.std.proofs.Common.{◌≡◌, ◌≢◌, ℕ, ◌+◌, ◌<◌, arith, Bool, true, false, cond, ◌&&◌, List, [], ◌∷◌, ◌++◌, length, Option, Some, None, refl, sym, ap, subst, ◌∙◌, eqb}
use Rattle.std.specs.Prelude.{◌==◌, slice_get, slice_set, is_some, not}
use Rattle.std.specs.FinMap.{get, insert, remove}
use Rattle.std.proofs.lemmas.Bool.{and_parts, false≢true, eqb-true, eqb-false}
use Rattle.std.proofs.lemmas.List.{map-append, length-map}
use Rattle.std.proofs.lemmas.Slice.Eq.{bytes_eq-Decides}
use Rattle.py_value.specs.declared.value.ModRef.{ModRef}
use Rattle.spec_core.specs.declared.spec.Spec.{Spec}
use Rattle.machine_events.specs.Loads.{is_same_load}
use Rattle.machine_events.proofs.Loads.{same_load}
use Rattle.machine_events.specs.Modules.{module_of}
use Rattle.machine_events.specs.declared.module.Slot.{Slot}
use Rattle.machine_events.specs.declared.module.Slot.TheVariants as slots
use Rattle.machine_events.specs.declared.event.Event.{Event}
use Rattle.machine_events.specs.declared.event.Event.TheVariants as events
use Rattle.machine_events.specs.declared.event.Reply.{Reply}
use Rattle.machine_events.specs.declared.event.Reply.TheVariants as replies
use Rattle.module_lock.specs.Table.{closes, is_free, owns, got, given, waiting, woken}
use Rattle.module_table.specs.Lists.{changed}
use Rattle.module_table.specs.Tables.{with_phase, with_open, reload_opened, restarted_object}
use Rattle.module_table.specs.declared.module.Object.{Object}
use Rattle.module_table.specs.declared.module.Load.{Load}
use Rattle.module_table.specs.declared.module.LoadKind.TheVariants as load_kinds
use Rattle.module_table.specs.declared.module.LoadStage.{LoadStage}
use Rattle.module_table.specs.declared.module.LoadStage.TheVariants as stages
use Rattle.module_table.specs.declared.module.Phase.{Phase}
use Rattle.module_table.specs.declared.module.Phase.TheVariants as phases
use Rattle.module_table.specs.declared.module.Reload.{Reload}
use Rattle.machine_spec.specs.declared.state.State.{State}
use Rattle.machine_spec.specs.Parts.{is_initialising, is_built_in, is_open, is_imported}
use Rattle.machine_spec.specs.Waits.{wait_on, ask_object, ask_none, ask_slot}
use Rattle.machine_spec.specs.Bodies.{finish_entry, closed, finish_object, finish_load}
use Rattle.machine_spec.specs.Variables.{sleeping}
use Rattle.machine_spec.specs.Reloads.{is_entry, busy_of, enter, reload_begin_on, reload_start, reload_take, reload_leave, reload_end_on}
use Rattle.machine_spec.specs.Lazies.{open_lazy, rouse_lazy, rouse_phase, rouse_on}
use Rattle.machine_spec.specs.Step.{step}
use Rattle.machine_spec.specs.Allowed.{allowed, can_finish, has_spare, has_text, has_body, has_name, is_reload, is_reloading, reloads_object}
use Rattle.machine_laws.specs.Bones.{Bones, Module, Body, bones, module_bone, body_bone}
use Rattle.machine_laws.specs.Sound.{IsSound, IsRunning, FitsPhase, HasBody, phase_of}
use Rattle.machine_laws.proofs.Same.{either, changed_map, kept_map, map_at, unmap}
use Rattle.machine_laws.proofs.Lists.{changed_is}
use Rattle.machine_laws.proofs.Leave.{runs, idle, fitting, spare}
use Rattle.machine_laws.proofs.Moves.{made, made_is, ns_same, main_same}
use Rattle.machine_laws.proofs.Changes.{made_fits}
use Rattle.machine_laws.proofs.Kept.{sets_on, deletes_on, sets_tab, deletes_tab, adds_path, finishes_entry}
use Rattle.machine_laws.proofs.Again.{reload_there}
use Rattle.machine_shown.specs.Holdings.{Holding, Taken, Loading, Reloading, without, becoming}
use Rattle.machine_shown.specs.Shown.{Doing, Waiting, Over, holds, does}
use Rattle.machine_allows.proofs.Times.{times}
use Rattle.machine_allows.proofs.Agreeing.{Agrees, Apart, apart_agrees, Backed}
use Rattle.machine_allows.proofs.Moving.{own_waits, other_waits, own_wakes, other_wakes, own_ends, other_ends, own_got, other_got, backed_got, own_given, other_given, backed_given, own_made, other_made, backed_made, own_lazy, other_lazy, backed_lazy, closed_given, own_closed, other_closed, backed_closed, begun_got, own_begun, other_begun, backed_begun, own_entered, other_entered, backed_entered, started, own_started, other_started, backed_started, own_left, other_left, backed_left, done_given, own_done, other_done, backed_done}

-- after the event of u each thread holds and does what its own pairs show, where it did before
pub record Told (s : State) (u : ℕ) (e : Event) (p : Reply × State) : Type 0 where
  pub agrees : (t : ℕ) (list : List Holding) (doing : Doing) → Agrees (bones s) t list doing → Agrees (bones p.1) t (cond (eqb u t) (holds e p.0 list) list) (cond (eqb u t) (does e p.0 doing) doing)
  pub backed : Backed (bones p.1)

told_by : (s : State) (u : ℕ) (e : Event) (r : Reply) (s' : State)
    → ((list : List Holding) (doing : Doing) → Agrees (bones s) u list doing → Agrees (bones s') u (holds e r list) (does e r doing))
    → ((t : ℕ) → t ≢ u → Apart (bones s) (bones s') t) → Backed (bones s') → Told s u e (r, s')
told_by s u e r s' own other backed = record {
  agrees = λ t list doing g.
      elim (eqb u t) as (λ c. eqb u t ≡ c → Agrees (bones s') t (cond c (holds e r list) list) (cond c (does e r doing) doing)) [
        | true ↦ λ p.
            let same : u ≡ t = eqb-true u t p in
            subst (λ z. Agrees (bones s') z (holds e r list) (does e r doing)) same (own list doing (subst (λ z. Agrees (bones s) z list doing) (sym same) g))
        | false ↦ λ p. apart_agrees (bones s) (bones s') t list doing (other t (λ x. eqb-false u t p (sym x))) g
      ] refl;
  backed = backed;
}

-- the reply tells the thread nothing of what it holds
abbrev Neutral : Event → Reply → Type 0
Neutral e r = ((list : List Holding) → holds e r list ≡ list) × ((doing : Doing) → does e r doing ≡ doing)

neutral_agrees : (b : Bones) (t : ℕ) (e : Event) (r : Reply) (list : List Holding) (doing : Doing) → Neutral e r → Agrees b t list doing → Agrees b t (holds e r list) (does e r doing)
neutral_agrees b t e r list doing n g = subst (λ z. Agrees b t z (does e r doing)) (sym (n.0 list)) (subst (Agrees b t list) (sym (n.1 doing)) g)

-- the bones stay as they are
quiet : (s : State) → Backed (bones s) → (u : ℕ) (e : Event) (r : Reply) (s' : State) → bones s' ≡ bones s → Neutral e r → Told s u e (r, s')
quiet s backed u e r s' same n = record {
  agrees = λ t list doing g.
      subst (λ b. Agrees b t (cond (eqb u t) (holds e r list) list) (cond (eqb u t) (does e r doing) doing)) (sym same)
      (elim (eqb u t) as (λ c. Agrees (bones s) t (cond c (holds e r list) list) (cond c (does e r doing) doing)) [
        | true ↦ neutral_agrees (bones s) t e r list doing n g
        | false ↦ g
      ]);
  backed = subst Backed (sym same) backed;
}

module _ (s : State) (sound : IsSound s) (backed : Backed (bones s)) (u : ℕ) where
  -- Waits.
  waits_on : (e : Event) (n : List ℕ) (blocked : Reply) → is_some (get s.table.ended u) ≡ false → Neutral e blocked
      → ((list : List Holding) → holds e (replies.Wait n) list ≡ list) → ((doing : Doing) → does e (replies.Wait n) doing ≡ Waiting) → Told s u e (wait_on s u n blocked)
  waits_on e n blocked going neutral same waits =
      elim (closes s.locks u n) as (λ c. Told s u e (cond c blocked (replies.Wait n), record s { locks = cond c s.locks (waiting s.locks u n) })) [
        | true ↦ quiet s backed u e blocked (record s { locks = s.locks }) refl neutral
        | false ↦ told_by s u e (replies.Wait n) (record s { locks = waiting s.locks u n })
            (λ list doing g. subst (λ z. Agrees (bones (record s { locks = waiting s.locks u n })) u z (does e (replies.Wait n) doing)) (sym (same list))
            (subst (Agrees (bones (record s { locks = waiting s.locks u n })) u list) (sym (waits doing)) (own_waits (bones s) sound backed u n list doing going g)))
            (other_waits (bones s) sound backed u n) (record { counts = backed.counts; again = backed.again })
      ]

  -- an event that asks for a name
  module _ (e : Event) (going : is_some (get s.table.ended u) ≡ false)
      (module_ : (m : ModRef) → Neutral e (replies.Module m)) (cycle : (m : ModRef) → Neutral e (replies.Cycle m)) (halted : Neutral e replies.Halted) (deadlock : Neutral e replies.Deadlock)
      (same : (n : List ℕ) (list : List Holding) → holds e (replies.Wait n) list ≡ list) (waits : (n : List ℕ) (doing : Doing) → does e (replies.Wait n) doing ≡ Waiting) where
    asks_object : (m : ModRef) (o : Option Object) → Told s u e (ask_object s u m o)
    asks_object m None = quiet s backed u e (replies.Module m) s refl (module_ m)
    asks_object m (Some o) =
        either (Told s u e) (is_initialising o.phase && not (owns s.locks u o.spec.name)) _ _
        (waits_on e o.spec.name (replies.Cycle m) going (cycle m) (same o.spec.name) (waits o.spec.name))
        (quiet s backed u e (replies.Module m) s refl (module_ m))

    asks_none : (n : List ℕ) (missing : Reply × State) → (is_free s.locks u n ≡ true → Told s u e missing) → Told s u e (ask_none s u n missing)
    asks_none n missing h =
        elim (is_free s.locks u n) as (λ c. is_free s.locks u n ≡ c → Told s u e (cond c missing (wait_on s u n replies.Deadlock))) [
          | true ↦ h
          | false ↦ λ _. waits_on e n replies.Deadlock going deadlock (same n) (waits n)
        ] refl

    asks_slot : (n : List ℕ) (missing : Reply × State) → (is_free s.locks u n ≡ true → Told s u e missing) → (slot : Option Slot) → Told s u e (ask_slot s u n missing slot)
    asks_slot n missing h None = asks_none n missing h
    asks_slot n missing h (Some slots.Absent) = asks_none n missing h
    asks_slot n missing h (Some slots.Halted) = quiet s backed u e replies.Halted s refl halted
    asks_slot n missing h (Some (slots.Module m)) = asks_object m (slice_get s.table.objects m.mid)

  asks : (n : List ℕ) → is_some (get s.table.ended u) ≡ false → Told s u (events.Ask n) (step s u (events.Ask n))
  asks n going =
      asks_slot (events.Ask n) going (λ m. (λ _. refl, λ _. refl)) (λ m. (λ _. refl, λ _. refl)) (λ _. refl, λ _. refl) (λ _. refl, λ _. refl) (λ m _. refl) (λ m _. refl)
      n (replies.Missing, s) (λ _. quiet s backed u (events.Ask n) replies.Missing s refl (λ _. refl, λ _. refl)) (get s.table.cache n)

  takes : (n : List ℕ) → is_some (get s.table.ended u) ≡ false → Told s u (events.Take n) (step s u (events.Take n))
  takes n going =
      asks_slot (events.Take n) going (λ m. (λ _. refl, λ _. refl)) (λ m. (λ _. refl, λ _. refl)) (λ _. refl, λ _. refl) (λ _. refl, λ _. refl) (λ m _. refl) (λ m _. refl)
      n (replies.Mine s.table.epoch, record s { locks = got s.locks u n })
      (λ free. told_by s u (events.Take n) (replies.Mine s.table.epoch) (record s { locks = got s.locks u n })
      (λ list doing g. own_got (bones s) sound backed u n list doing free g) (other_got (bones s) sound backed u n free) (backed_got (bones s) sound backed u n))
      (get s.table.cache n)

  wakes : is_some (get s.table.ended u) ≡ false → Told s u events.Wake (step s u events.Wake)
  wakes going =
      told_by s u events.Wake replies.Woken (record s { locks = woken s.locks u })
      (λ list doing g. own_wakes (bones s) sound backed u list doing going g) (other_wakes (bones s) sound backed u) (record { counts = backed.counts; again = backed.again })

  ends : (e : Event) → ((list : List Holding) → holds e replies.Done list ≡ list) → ((doing : Doing) → does e replies.Done doing ≡ Over) → get s.locks.waits u ≡ None
      → Told s u e (replies.Done, record s { table = record s.table { ended = insert s.table.ended u tt } })
  ends e same over idle_now =
      let after : State = record s { table = record s.table { ended = insert s.table.ended u tt } } in
      told_by s u e replies.Done after
      (λ list doing g. subst (λ z. Agrees (bones after) u z (does e replies.Done doing)) (sym (same list)) (subst (Agrees (bones after) u list) (sym (over doing)) (own_ends (bones s) sound backed u list doing idle_now g)))
      (other_ends (bones s) sound backed u) (record { counts = backed.counts; again = backed.again })

  -- a spare take is among what the thread holds
  spare_taken : (n : List ℕ) → has_spare s u n ≡ true → (list : List Holding) (doing : Doing) → Agrees (bones s) u list doing → 0 < times (Taken n) list
  spare_taken n h list doing g = let more = spare s u n h in let here = g.takes n in omega arith

  releases : (n : List ℕ) → has_spare s u n ≡ true → Told s u (events.Release n) (step s u (events.Release n))
  releases n h =
      told_by s u (events.Release n) replies.Done (record s { locks = given s.locks u n })
      (λ list doing g. own_given (bones s) sound backed u n list doing (spare_taken n h list doing g) g) (other_given (bones s) sound backed u n) (backed_given (bones s) sound backed u n)

  -- Bodies.
  adds : (spec : Spec) (text : List ℕ) → has_spare s u spec.name ≡ true → IsRunning (bones s) u → Told s u (events.Add spec text) (step s u (events.Add spec text))
  adds spec text h running =
      let p : Reply × State = step s u (events.Add spec text) in
      let is : bones p.1 ≡ made (bones s) u spec.name phases.Initialising load_kinds.Plain stages.Open = made_is s spec phases.Initialising load_kinds.Plain u text stages.Open in
      told_by s u (events.Add spec text) p.0 p.1
      (λ list doing g. subst (λ b. Agrees b u (becoming (Taken spec.name) (Loading (length s.table.loads)) list) doing) (sym is)
      (subst (λ k. Agrees (made (bones s) u spec.name phases.Initialising load_kinds.Plain stages.Open) u (becoming (Taken spec.name) (Loading k) list) doing) (length-map s.table.loads body_bone)
      (own_made (bones s) sound backed u spec.name running.going list doing (spare_taken spec.name h list doing g) g)))
      (λ t other. subst (λ b. Apart (bones s) b t) (sym is) (other_made (bones s) sound backed u spec.name running.going t other))
      (subst Backed (sym is) (backed_made (bones s) sound backed u spec.name running.going))

  adds_lazy : (spec : Spec) (text : List ℕ) → has_spare s u spec.name ≡ true → IsRunning (bones s) u → Told s u (events.AddLazy spec text) (step s u (events.AddLazy spec text))
  adds_lazy spec text h running =
      let p : Reply × State = step s u (events.AddLazy spec text) in
      let after : Bones = record (made (bones s) u spec.name phases.Lazy load_kinds.Lazy stages.Resting) { locks = given s.locks u spec.name } in
      let is : bones p.1 ≡ after = ap (λ (c : Bones). record c { locks = given s.locks u spec.name }) (made_is s spec phases.Lazy load_kinds.Lazy u text stages.Resting) in
      told_by s u (events.AddLazy spec text) p.0 p.1
      (λ list doing g. subst (λ b. Agrees b u (without (Taken spec.name) list) doing) (sym is) (own_lazy (bones s) sound backed u spec.name running.going list doing (spare_taken spec.name h list doing g) g))
      (λ t other. subst (λ b. Apart (bones s) b t) (sym is) (other_lazy (bones s) sound backed u spec.name running.going t other))
      (subst Backed (sym is) (backed_lazy (bones s) sound backed u spec.name running.going))

  abbrev closed_bones : ℕ → ℕ → List ℕ → Bones → Bones
  closed_bones load mid n b = record b {
    bodies = changed (λ l. record l { stage = stages.Ended }) b.bodies load;
    modules = changed (λ m. record m { phase = phases.Ready }) b.modules mid;
    locks = given b.locks u n;
  }

  closed_is : (z : State) (load mid : ℕ) (n : List ℕ) → bones (closed u load mid n z) ≡ closed_bones load mid n (bones z)
  closed_is z load mid n =
      ap (λ ls. record (bones (closed u load mid n z)) { bodies = ls }) (changed_map body_bone _ (λ (l : Body). record l { stage = stages.Ended }) (λ l. refl) z.table.loads load)
      ∙ ap (λ ms. record (closed_bones load mid n (bones z)) { modules = ms }) (changed_map module_bone _ (λ (m : Module). record m { phase = phases.Ready }) (λ o. refl) z.table.objects mid)

  finishes_object : (load : ℕ) (good : Bool) (l : Load) (o : Option Object) → slice_get s.table.loads load ≡ Some l → slice_get s.table.objects l.mid ≡ o → can_finish u (Some l) ≡ true → Told s u (events.Finish load good) (finish_object s u load good l o)
  finishes_object load good l None is at can =
      let there = sound.bodies load (body_bone l) (map_at body_bone s.table.loads load l is) in
      absurd (none_there there.0 there.1)
    where
      none_there : (m : Module) → slice_get (bones s).modules l.mid ≡ Some m → ⊥
      none_there m h = let e = unmapped m h in let f : None ≡ Some e.0 = sym at ∙ e.1 in let z : ⊥ = cc in z
        where
          unmapped : (m : Module) → slice_get (bones s).modules l.mid ≡ Some m → (x : Object) × (slice_get s.table.objects l.mid ≡ Some x)
          unmapped m h = let w = unmap module_bone s.table.objects l.mid m h in (w.0, w.1)
  finishes_object load good l (Some o) is at can =
      let b : Bones = bones s in
      let parts = and_parts (is_open l.stage && (l.thread == u)) (is_imported l.kind) can in
      let front = and_parts (is_open l.stage) (l.thread == u) parts.0 in
      let own : l.thread ≡ u = eqb-true l.thread u front.1 in
      let body : Body = body_bone l in
      let own_module : Module = module_bone o in
      let body_at : slice_get b.bodies load ≡ Some body = map_at body_bone s.table.loads load l is in
      let there : slice_get b.modules l.mid ≡ Some own_module = map_at module_bone s.table.objects l.mid o at in
      let after : Bones = closed_given b sound backed u load body own_module body_at there parts.1 in
      let p : Reply × State = finish_entry s l.kind good o.spec.name in
      let same_bodies = changed_is (λ (l : Body). record l { stage = stages.Ended }) b.bodies load body body_at in
      let same_modules = changed_is (λ (m : Module). record m { phase = phases.Ready }) b.modules l.mid own_module there in
      let ended : Body = record { kind = l.kind; thread = l.thread; mid = l.mid; stage = stages.Ended } in
      let is_after : bones (closed u load l.mid o.spec.name p.1) ≡ after =
      closed_is p.1 load l.mid o.spec.name
      ∙ ap (closed_bones load l.mid o.spec.name) (finishes_entry s u l.kind good o.spec.name)
      ∙ ap (λ ls. record (closed_bones load l.mid o.spec.name b) { bodies = ls }) same_bodies
      ∙ ap (λ ms. record (closed_bones load l.mid o.spec.name b) { bodies = slice_set b.bodies load ended; modules = ms }) same_modules
      ∙ ap (λ z. record after { bodies = slice_set b.bodies load (record { kind = l.kind; thread = z; mid = l.mid; stage = stages.Ended }) }) own
      in
      told_by s u (events.Finish load good) p.0 (closed u load l.mid o.spec.name p.1)
      (λ list doing g. subst (λ c. Agrees c u (without (Loading load) list) doing) (sym is_after) (own_closed b sound backed u load body own_module body_at there parts.1 list doing front.0 own g))
      (λ t other. subst (λ c. Apart b c t) (sym is_after) (other_closed b sound backed u load body own_module body_at there parts.1 front.0 own t other))
      (subst Backed (sym is_after) (backed_closed b sound backed u load body own_module body_at there parts.1))

  finishes : (load : ℕ) (good : Bool) (l : Option Load) → slice_get s.table.loads load ≡ l → can_finish u l ≡ true → Told s u (events.Finish load good) (finish_load s u load good l)
  finishes load good None is can = absurd (false≢true can)
  finishes load good (Some l) is can = finishes_object load good l (slice_get s.table.objects l.mid) is refl can

  -- Reloads.
  busy : (mid : ℕ) (raw : Bool) (k : ℕ) (o : Option Object) → Told s u (events.ReloadBegin mid raw) (busy_of k o, s)
  busy mid raw k None = quiet s backed u (events.ReloadBegin mid raw) replies.NotThere s refl (λ _. refl, λ _. refl)
  busy mid raw k (Some o) = quiet s backed u (events.ReloadBegin mid raw) (replies.Busy (module_of o.spec k)) s refl (λ _. refl, λ _. refl)

  enters : (mid : ℕ) (raw : Bool) (o : Object) → slice_get s.table.objects mid ≡ Some o → (r : Option Reload) → get s.table.reloading o.spec.name ≡ r → Told s u (events.ReloadBegin mid raw) (enter s u mid o.spec.name r)
  enters mid raw o is (Some r) at = busy mid raw r.mid (slice_get s.table.objects r.mid)
  enters mid raw o is None at =
      let m : Module = module_bone o in
      let there : slice_get (bones s).modules mid ≡ Some m = map_at module_bone s.table.objects mid o is in
      told_by s u (events.ReloadBegin mid raw) (replies.Begun s.table.epoch) (enter s u mid o.spec.name None).1
      (λ list doing g. own_entered (bones s) sound backed u o.spec.name mid m there refl list doing at g)
      (other_entered (bones s) sound backed u o.spec.name mid m there refl at) (backed_entered (bones s) sound backed u o.spec.name mid m there refl at)

  begins : (mid : ℕ) (raw : Bool) (o : Option Object) → slice_get s.table.objects mid ≡ o → Told s u (events.ReloadBegin mid raw) (reload_begin_on s u mid raw o)
  begins mid raw None is = quiet s backed u (events.ReloadBegin mid raw) replies.NotThere s refl (λ _. refl, λ _. refl)
  begins mid raw (Some o) is =
      let e : Event = events.ReloadBegin mid raw in
      either (Told s u e) (is_built_in o.spec.kind) _ _ (quiet s backed u e replies.Fixed s refl (λ _. refl, λ _. refl))
      (either (Told s u e) (sleeping s u raw o) _ _ (quiet s backed u e replies.Sleeping s refl (λ _. refl, λ _. refl))
      (either (Told s u e) (is_entry mid (get s.table.cache o.spec.name)) _ _ (enters mid raw o is (get s.table.reloading o.spec.name) refl)
      (quiet s backed u e replies.NotThere s refl (λ _. refl, λ _. refl))))

  -- what a reload's start leaves, where the reload of the name is this one
  abbrev again : ℕ → Spec → List ℕ → Option Reload → State
  again mid spec text o = record s {
    table = record (reload_opened s.table spec.name (length s.table.loads) o) {
      objects = changed (restarted_object spec) s.table.objects mid;
      loads = s.table.loads ++ record { kind = load_kinds.Reload; thread = u; mid = mid; text = text; stage = stages.Open } ∷ [];
    };
    locks = got s.locks u spec.name;
  }

  again_is : (mid : ℕ) (spec : Spec) (text : List ℕ) (m : Module) (there : slice_get (bones s).modules mid ≡ Some m) (named : m.name ≡ spec.name)
      → bones (again mid spec text (Some (record { thread = u; mid = mid; load = None }))) ≡ started (bones s) sound backed u spec.name mid m there named
  again_is mid spec text m there named =
      let b : Bones = bones (again mid spec text (Some (record { thread = u; mid = mid; load = None }))) in
      let bodies : List Body = (bones s).bodies ++ record { kind = load_kinds.Reload; thread = u; mid = mid; stage = stages.Open } ∷ [] in
      ap (λ ms. record b { modules = ms }) (kept_map module_bone (restarted_object spec) (λ o. refl) s.table.objects mid)
      ∙ ap (λ ls. record b { modules = (bones s).modules; bodies = ls }) (map-append body_bone s.table.loads _)
      ∙ ap (λ n. record b { modules = (bones s).modules; bodies = bodies; reloads = insert s.table.reloading spec.name (record { thread = u; mid = mid; load = Some n }) }) (sym (length-map s.table.loads body_bone))

  this_reload : (mid : ℕ) (load : Option ℕ) (r : Reload) → r.thread ≡ u → r.mid ≡ mid → r.load ≡ load → r ≡ record { thread = u; mid = mid; load = load }
  this_reload mid load r thread same has =
      ap (λ z. record r { thread = z }) thread ∙ ap (λ z. record r { thread = u; mid = z }) same ∙ ap (λ z. record { thread = u; mid = mid; load = z }) has

  starts : (mid : ℕ) (spec : Spec) (text : List ℕ) (o : Object) (r : Option Reload) → slice_get s.table.objects mid ≡ Some o → o.spec.name ≡ spec.name → get s.table.reloading spec.name ≡ r → is_reload u mid None r ≡ true
      → is_free s.locks u spec.name ≡ true → Told s u (events.ReloadTake mid spec text) (replies.Load (length s.table.loads) mid, again mid spec text r)
  starts mid spec text o None is named at h free = absurd (false≢true h)
  starts mid spec text o (Some r) is named at h free =
      let parts = and_parts ((r.thread == u) && (r.mid == mid)) (is_same_load r.load None) h in
      let who = and_parts (r.thread == u) (r.mid == mid) parts.0 in
      let fresh : Reload = record { thread = u; mid = mid; load = None } in
      let same : r ≡ fresh = this_reload mid None r (eqb-true r.thread u who.0) (eqb-true r.mid mid who.1) (same_load r.load None parts.1) in
      let m : Module = module_bone o in
      let there : slice_get (bones s).modules mid ≡ Some m = map_at module_bone s.table.objects mid o is in
      let runs_it : get s.table.reloading spec.name ≡ Some fresh = at ∙ ap (λ z. Some z) same in
      let is_after : bones (again mid spec text (Some r)) ≡ started (bones s) sound backed u spec.name mid m there named = ap (λ z. bones (again mid spec text (Some z))) same ∙ again_is mid spec text m there named in
      told_by s u (events.ReloadTake mid spec text) (replies.Load (length s.table.loads) mid) (again mid spec text (Some r))
      (λ list doing g. subst (λ b. Agrees b u (becoming (Reloading mid None) (Reloading mid (Some (length s.table.loads))) list) doing) (sym is_after)
      (subst (λ k. Agrees (started (bones s) sound backed u spec.name mid m there named) u (becoming (Reloading mid None) (Reloading mid (Some k)) list) doing) (length-map s.table.loads body_bone)
      (own_started (bones s) sound backed u spec.name mid m there named list doing runs_it free g)))
      (λ t other. subst (λ b. Apart (bones s) b t) (sym is_after) (other_started (bones s) sound backed u spec.name mid m there named runs_it free t other))
      (subst Backed (sym is_after) (backed_started (bones s) sound backed u spec.name mid m there named runs_it))

  takes_on : (mid : ℕ) (spec : Spec) (text : List ℕ) (o : Option Object) → slice_get s.table.objects mid ≡ o → reloads_object s u mid None o ≡ true → has_name o spec.name ≡ true → is_some (get s.table.ended u) ≡ false
      → Told s u (events.ReloadTake mid spec text) (reload_take s u mid spec text)
  takes_on mid spec text None is runs named going = absurd (false≢true runs)
  takes_on mid spec text (Some o) is runs named going =
      let e : Event = events.ReloadTake mid spec text in
      let name : o.spec.name ≡ spec.name = (bytes_eq-Decides o.spec.name spec.name).0 named in
      let mine : is_reload u mid None (get s.table.reloading spec.name) ≡ true = ap (λ n. is_reload u mid None (get s.table.reloading n)) (sym name) ∙ runs in
      elim (is_free s.locks u spec.name) as (λ c. is_free s.locks u spec.name ≡ c → Told s u e (cond c (cond (is_entry mid (get s.table.cache spec.name)) (reload_start s u mid spec text) (replies.NotThere, s)) (wait_on s u spec.name replies.Deadlock))) [
        | true ↦ λ free. either (Told s u e) (is_entry mid (get s.table.cache spec.name)) _ _ (starts mid spec text o (get s.table.reloading spec.name) is name refl mine free) (quiet s backed u e replies.NotThere s refl (λ _. refl, λ _. refl))
        | false ↦ λ _. waits_on e spec.name replies.Deadlock going (λ _. refl, λ _. refl) (λ _. refl) (λ _. refl)
      ] refl

  leaves : (mid : ℕ) (load : Option ℕ) (o : Object) → slice_get s.table.objects mid ≡ Some o → (r : Option Reload) → get s.table.reloading o.spec.name ≡ r → is_reload u mid load r ≡ true → Told s u (events.ReloadEnd mid load) (reload_leave s u o.spec.name load)
  leaves mid load o is None at h = absurd (false≢true h)
  leaves mid None o is (Some r) at h =
      let parts = and_parts ((r.thread == u) && (r.mid == mid)) (is_same_load r.load None) h in
      let who = and_parts (r.thread == u) (r.mid == mid) parts.0 in
      let m : Module = module_bone o in
      let there : slice_get (bones s).modules mid ≡ Some m = map_at module_bone s.table.objects mid o is in
      let runs_it : get s.table.reloading o.spec.name ≡ Some (record { thread = u; mid = mid; load = None }) = at ∙ ap (λ z. Some z) (this_reload mid None r (eqb-true r.thread u who.0) (eqb-true r.mid mid who.1) (same_load r.load None parts.1)) in
      told_by s u (events.ReloadEnd mid None) replies.Done (reload_leave s u o.spec.name None).1
      (λ list doing g. own_left (bones s) sound backed u o.spec.name mid m there refl None runs_it list doing g)
      (other_left (bones s) sound backed u o.spec.name mid m there refl None runs_it) (backed_left (bones s) sound backed u o.spec.name mid m there refl None runs_it refl)
  leaves mid (Some load) o is (Some r) at h =
      let b : Bones = bones s in
      let n : List ℕ = o.spec.name in
      let parts = and_parts ((r.thread == u) && (r.mid == mid)) (is_same_load r.load (Some load)) h in
      let who = and_parts (r.thread == u) (r.mid == mid) parts.0 in
      let m : Module = module_bone o in
      let there : slice_get b.modules mid ≡ Some m = map_at module_bone s.table.objects mid o is in
      let it : Reload = record { thread = u; mid = mid; load = Some load } in
      let runs_it : get s.table.reloading n ≡ Some it = at ∙ ap (λ z. Some z) (this_reload mid (Some load) r (eqb-true r.thread u who.0) (eqb-true r.mid mid who.1) (same_load r.load (Some load) parts.1)) in
      let body : Body = record { kind = load_kinds.Reload; thread = u; mid = mid; stage = stages.Open } in
      let body_at : slice_get b.bodies load ≡ Some body = reload_there b sound n it load runs_it refl in
      let after : Bones = done_given b sound backed u n mid m there refl (Some load) runs_it load refl body_at in
      let is_after : bones (reload_leave s u n (Some load)).1 ≡ after =
      ap (λ ls. record b { bodies = ls; reloads = remove b.reloads n; locks = given b.locks u n }) (changed_map body_bone _ (λ (l : Body). record l { stage = stages.Ended }) (λ l. refl) s.table.loads load)
      ∙ ap (λ ls. record b { bodies = ls; reloads = remove b.reloads n; locks = given b.locks u n }) (changed_is (λ (l : Body). record l { stage = stages.Ended }) b.bodies load body body_at)
      in
      told_by s u (events.ReloadEnd mid (Some load)) (reload_leave s u n (Some load)).0 (reload_leave s u n (Some load)).1
      (λ list doing g. subst (λ c. Agrees c u (without (Reloading mid (Some load)) list) doing) (sym is_after) (own_done b sound backed u n mid m there refl (Some load) runs_it load refl body_at list doing g))
      (λ t other. subst (λ c. Apart b c t) (sym is_after) (other_done b sound backed u n mid m there refl (Some load) runs_it load refl body_at t other))
      (subst Backed (sym is_after) (backed_done b sound backed u n mid m there refl (Some load) runs_it load refl body_at))

  ends_again : (mid : ℕ) (load : Option ℕ) (o : Option Object) → slice_get s.table.objects mid ≡ o → reloads_object s u mid load o ≡ true → Told s u (events.ReloadEnd mid load) (reload_end_on s u load o)
  ends_again mid load None is h = absurd (false≢true h)
  ends_again mid load (Some o) is h = leaves mid load o is (get s.table.reloading o.spec.name) refl h

  -- Lazy modules.
  rests : (stage : LoadStage) → phase_of stage ≡ phases.Lazy → is_open stage ≡ false
  rests stages.Resting h = refl
  rests stages.Open h = absurd (let z : ⊥ = cc in z)
  rests stages.Ended h = absurd (let z : ⊥ = cc in z)

  opens_lazy : (mid : ℕ) (o : Object) (load : ℕ) (l : Option Load) → slice_get s.table.objects mid ≡ Some o → o.phase ≡ phases.Lazy → o.load ≡ Some load → slice_get s.table.loads load ≡ l → HasBody (bones s) mid (module_bone o)
      → is_free s.locks u o.spec.name ≡ true → Told s u (events.Rouse mid) (open_lazy s u mid o.spec.name load l)
  opens_lazy mid o load None is lazy made_by at has free = quiet s backed u (events.Rouse mid) replies.Ready s refl (λ _. refl, λ _. refl)
  opens_lazy mid o load (Some l) is lazy made_by at has free =
      let b : Bones = bones s in
      let own_module : Module = module_bone o in
      let body : Body = body_bone l in
      let body_at : slice_get b.bodies load ≡ Some body = map_at body_bone s.table.loads load l at in
      let index : has.0 ≡ load = let e : Some has.0 ≡ Some load = sym has.2 ∙ made_by in cc in
      let same : has.1 ≡ body = let e : Some has.1 ≡ Some body = sym has.3 ∙ ap (slice_get b.bodies) index ∙ body_at in cc in
      let own_mid : l.mid ≡ mid = ap (λ (z : Body). z.mid) (sym same) ∙ has.4 in
      let imported : is_imported l.kind ≡ true = ap (λ (z : Body). is_imported z.kind) (sym same) ∙ has.5 in
      let there : slice_get b.modules l.mid ≡ Some own_module = ap (slice_get b.modules) own_mid ∙ map_at module_bone s.table.objects mid o is in
      let fits = sound.bodies load body body_at in
      let one : fits.0 ≡ own_module = let e : Some fits.0 ≡ Some own_module = sym fits.1 ∙ there in cc in
      let fit = made_fits load body fits.0 l.kind imported fits.2 in
      let closed_now : is_open l.stage ≡ false = rests l.stage (sym fit.1 ∙ ap (λ (z : Module). z.phase) one ∙ lazy) in
      let after : Bones = begun_got b sound backed u load body own_module body_at there imported in
      let state : State = record s { table = with_phase (with_open s.table load u) mid phases.Initialising; locks = got s.locks u o.spec.name } in
      let is_after : bones state ≡ after =
      ap (λ ls. record (bones state) { bodies = ls }) (changed_map body_bone _ (λ (l : Body). record l { stage = stages.Open; thread = u }) (λ l. refl) s.table.loads load ∙ changed_is (λ (l : Body). record l { stage = stages.Open; thread = u }) b.bodies load body body_at)
      ∙ ap (λ ms. record after { modules = ms }) (
      changed_map module_bone _ (λ (m : Module). record m { phase = phases.Initialising }) (λ o. refl) s.table.objects mid
      ∙ ap (changed (λ (m : Module). record m { phase = phases.Initialising }) b.modules) (sym own_mid)
      ∙ changed_is (λ (m : Module). record m { phase = phases.Initialising }) b.modules l.mid own_module there)
      in
      told_by s u (events.Rouse mid) (replies.Yours load l.text) state
      (λ list doing g. subst (λ c. Agrees c u (Loading load ∷ list) doing) (sym is_after) (own_begun b sound backed u load body own_module body_at there imported list doing closed_now free g))
      (λ t other. subst (λ c. Apart b c t) (sym is_after) (other_begun b sound backed u load body own_module body_at there imported closed_now free t other))
      (subst Backed (sym is_after) (backed_begun b sound backed u load body own_module body_at there imported))

  rouses_lazy : (mid : ℕ) (o : Object) (load : Option ℕ) → slice_get s.table.objects mid ≡ Some o → o.phase ≡ phases.Lazy → o.load ≡ load → HasBody (bones s) mid (module_bone o) → is_some (get s.table.ended u) ≡ false → Told s u (events.Rouse mid) (rouse_lazy s u mid o.spec.name load)
  rouses_lazy mid o None is lazy made_by has going = quiet s backed u (events.Rouse mid) replies.Ready s refl (λ _. refl, λ _. refl)
  rouses_lazy mid o (Some load) is lazy made_by has going =
      elim (is_free s.locks u o.spec.name) as (λ c. is_free s.locks u o.spec.name ≡ c → Told s u (events.Rouse mid) (cond c (open_lazy s u mid o.spec.name load (slice_get s.table.loads load)) (wait_on s u o.spec.name replies.Deadlock))) [
        | true ↦ λ free. opens_lazy mid o load (slice_get s.table.loads load) is lazy made_by refl has free
        | false ↦ λ _. waits_on (events.Rouse mid) o.spec.name replies.Deadlock going (λ _. refl, λ _. refl) (λ _. refl) (λ _. refl)
      ] refl

  rouses_phase : (mid : ℕ) (o : Object) (phase : Phase) → slice_get s.table.objects mid ≡ Some o → o.phase ≡ phase → FitsPhase (bones s) mid (module_bone o) phase → is_some (get s.table.ended u) ≡ false → Told s u (events.Rouse mid) (rouse_phase s u mid o phase)
  rouses_phase mid o phases.Ready is at fits going = quiet s backed u (events.Rouse mid) replies.Ready s refl (λ _. refl, λ _. refl)
  rouses_phase mid o phases.Initialising is at fits going =
      either (Told s u (events.Rouse mid)) (owns s.locks u o.spec.name) _ _ (quiet s backed u (events.Rouse mid) replies.Ready s refl (λ _. refl, λ _. refl))
      (waits_on (events.Rouse mid) o.spec.name (replies.Cycle (module_of o.spec mid)) going (λ _. refl, λ _. refl) (λ _. refl) (λ _. refl))
  rouses_phase mid o phases.Lazy is at fits going = rouses_lazy mid o o.load is at refl fits going

  rouses_on : (mid : ℕ) (o : Option Object) → slice_get s.table.objects mid ≡ o → is_some (get s.table.ended u) ≡ false → Told s u (events.Rouse mid) (rouse_on s u mid o)
  rouses_on mid None is going = quiet s backed u (events.Rouse mid) replies.Ready s refl (λ _. refl, λ _. refl)
  rouses_on mid (Some o) is going = rouses_phase mid o o.phase is refl (sound.modules mid (module_bone o) (map_at module_bone s.table.objects mid o is)) going

pub told_step : (s : State) → IsSound s → Backed (bones s) → (u : ℕ) (e : Event) → allowed s u e ≡ true → Told s u e (step s u e)
told_step s sound backed u (events.Ask n) h = asks s sound backed u n (runs s u (events.Ask n) h).going
told_step s sound backed u (events.Take n) h = takes s sound backed u n (runs s u (events.Take n) h).going
told_step s sound backed u events.Wake h = wakes s sound backed u (runs s u events.Wake h).going
told_step s sound backed u (events.Add spec text) h =
    adds s sound backed u spec text (and_parts (has_spare s u spec.name) (has_text spec.kind text) (fitting s u (events.Add spec text) h refl)).0 (runs s u (events.Add spec text) h)
told_step s sound backed u (events.Finish load good) h = finishes s sound backed u load good (slice_get s.table.loads load) refl (fitting s u (events.Finish load good) h refl)
told_step s sound backed u (events.Release n) h = releases s sound backed u n (fitting s u (events.Release n) h refl)
told_step s sound backed u (events.GetVar mid x raw) h = quiet s backed u (events.GetVar mid x raw) (step s u (events.GetVar mid x raw)).0 s refl (λ _. refl, λ _. refl)
told_step s sound backed u (events.SetVar raw mid x v) h =
    let p : Reply × State = step s u (events.SetVar raw mid x v) in quiet s backed u (events.SetVar raw mid x v) p.0 p.1 (sets_on s u mid x v raw (slice_get s.table.objects mid)) (λ _. refl, λ _. refl)
told_step s sound backed u (events.DelVar mid x raw) h =
    let p : Reply × State = step s u (events.DelVar mid x raw) in quiet s backed u (events.DelVar mid x raw) p.0 p.1 (deletes_on s u mid x raw (slice_get s.table.objects mid)) (λ _. refl, λ _. refl)
told_step s sound backed u (events.Names mid) h = quiet s backed u (events.Names mid) (step s u (events.Names mid)).0 s refl (λ _. refl, λ _. refl)
told_step s sound backed u (events.Source load) h = quiet s backed u (events.Source load) (step s u (events.Source load)).0 s refl (λ _. refl, λ _. refl)
told_step s sound backed u (events.Print text) h = quiet s backed u (events.Print text) replies.Done s refl (λ _. refl, λ _. refl)
told_step s sound backed u events.PathGet h = quiet s backed u events.PathGet (replies.Path s.table.path) s refl (λ _. refl, λ _. refl)
told_step s sound backed u (events.PathAdd at v) h = let p : Reply × State = step s u (events.PathAdd at v) in quiet s backed u (events.PathAdd at v) p.0 p.1 (adds_path s u at v) (λ _. refl, λ _. refl)
told_step s sound backed u (events.DirGet dir part) h = quiet s backed u (events.DirGet dir part) (step s u (events.DirGet dir part)).0 s refl (λ _. refl, λ _. refl)
told_step s sound backed u (events.DirSet dir listing) h = let p : Reply × State = step s u (events.DirSet dir listing) in quiet s backed u (events.DirSet dir listing) p.0 p.1 refl (λ _. refl, λ _. refl)
told_step s sound backed u events.Invalidate h = let p : Reply × State = step s u events.Invalidate in quiet s backed u events.Invalidate p.0 p.1 refl (λ _. refl, λ _. refl)
told_step s sound backed u (events.NsGet mid) h = quiet s backed u (events.NsGet mid) (step s u (events.NsGet mid)).0 s refl (λ _. refl, λ _. refl)
told_step s sound backed u (events.NsSet mid state) h = let p : Reply × State = step s u (events.NsSet mid state) in quiet s backed u (events.NsSet mid state) p.0 p.1 (ns_same s mid state) (λ _. refl, λ _. refl)
told_step s sound backed u (events.TabGet n) h = quiet s backed u (events.TabGet n) (step s u (events.TabGet n)).0 s refl (λ _. refl, λ _. refl)
told_step s sound backed u (events.TabSet n slot) h = let p : Reply × State = step s u (events.TabSet n slot) in quiet s backed u (events.TabSet n slot) p.0 p.1 (sets_tab s u n slot) (λ _. refl, λ _. refl)
told_step s sound backed u (events.TabDel n) h = let p : Reply × State = step s u (events.TabDel n) in quiet s backed u (events.TabDel n) p.0 p.1 (deletes_tab s u n) (λ _. refl, λ _. refl)
told_step s sound backed u (events.ReloadBegin mid raw) h = begins s sound backed u mid raw (slice_get s.table.objects mid) refl
told_step s sound backed u (events.ReloadTake mid spec text) h =
    let fits = fitting s u (events.ReloadTake mid spec text) h refl in
    let parts = and_parts (is_reloading s u mid None && has_name (slice_get s.table.objects mid) spec.name) (has_text spec.kind text) fits in
    let front = and_parts (is_reloading s u mid None) (has_name (slice_get s.table.objects mid) spec.name) parts.0 in
    takes_on s sound backed u mid spec text (slice_get s.table.objects mid) refl front.0 front.1 (runs s u (events.ReloadTake mid spec text) h).going
told_step s sound backed u (events.ReloadEnd mid load) h = ends_again s sound backed u mid load (slice_get s.table.objects mid) refl (fitting s u (events.ReloadEnd mid load) h refl)
told_step s sound backed u (events.AddLazy spec text) h =
    adds_lazy s sound backed u spec text (and_parts (has_spare s u spec.name) (has_body spec.kind) (fitting s u (events.AddLazy spec text) h refl)).0 (runs s u (events.AddLazy spec text) h)
told_step s sound backed u (events.Rouse mid) h = rouses_on s sound backed u mid (slice_get s.table.objects mid) refl (runs s u (events.Rouse mid) h).going
told_step s sound backed u (events.Main spec text) h = let p : Reply × State = step s u (events.Main spec text) in quiet s backed u (events.Main spec text) p.0 p.1 (main_same s u spec text) (λ _. refl, λ _. refl)
told_step s sound backed u (events.End outcome spent) h = ends s sound backed u (events.End outcome spent) (λ _. refl) (λ _. refl) (idle s u (events.End outcome spent) h refl)
