-- How the events that open or end a load change the number of open loads of a name.
use Rattle.std.proofs.Common.{◌≡◌, ℕ, ◌+◌, arith, Bool, true, false, cond, ◌&&◌, List, Option, Some, None, refl, sym, ap, ◌∙◌}
use Rattle.std.specs.Prelude.{◌==◌, slice_get, not, nat_eq, option_and_then}
use Rattle.std.specs.Option.{option_map}
use Rattle.std.specs.Cmp.Lexicographic.{pointwise}
use Rattle.std.specs.FinMap.{get}
use Rattle.std.proofs.lemmas.Bool.{and_parts, false≢true, eqb-true}
use Rattle.std.proofs.lemmas.List.{map-append}
use Rattle.std.proofs.lemmas.Slice.Eq.{bytes_eq-Decides}
use Rattle.spec_core.specs.declared.spec.Spec.{Spec}
use Rattle.machine_events.specs.Loads.{is_same_load}
use Rattle.machine_events.proofs.Loads.{same_load}
use Rattle.machine_events.specs.Modules.{module_of}
use Rattle.machine_events.specs.declared.module.Slot.{Slot}
use Rattle.machine_events.specs.declared.module.Slot.TheVariants as slots
use Rattle.machine_events.specs.declared.event.Reply.{Reply}
use Rattle.machine_events.specs.declared.event.Reply.TheVariants as replies
use Rattle.py_value.specs.declared.value.ModRef.{ModRef}
use Rattle.module_lock.specs.Table.{closes, is_free, owns}
use Rattle.module_table.specs.Lists.{changed}
use Rattle.module_table.specs.Tables.{restarted_object}
use Rattle.module_table.specs.declared.module.Object.{Object}
use Rattle.module_table.specs.declared.module.Load.{Load}
use Rattle.module_table.specs.declared.module.Reload.{Reload}
use Rattle.module_table.specs.declared.module.LoadKind.TheVariants as load_kinds
use Rattle.module_table.specs.declared.module.LoadStage.{LoadStage}
use Rattle.module_table.specs.declared.module.LoadStage.TheVariants as stages
use Rattle.module_table.specs.declared.module.Phase.{Phase}
use Rattle.module_table.specs.declared.module.Phase.TheVariants as phases
use Rattle.machine_spec.specs.declared.state.State.{State}
use Rattle.machine_spec.specs.Parts.{is_initialising, is_built_in, is_open, is_imported}
use Rattle.machine_spec.specs.Gives.{name_of}
use Rattle.machine_spec.specs.Waits.{wait_on, ask_object, ask_none, ask_slot}
use Rattle.machine_spec.specs.Bodies.{add, finish_entry, closed, finish_object, finish_load}
use Rattle.machine_spec.specs.Variables.{sleeping}
use Rattle.machine_spec.specs.Reloads.{is_entry, enter, reload_begin_on, reload_start, reload_take, reload_leave, reload_end_on}
use Rattle.machine_spec.specs.Lazies.{add_lazy, open_lazy, rouse_lazy, rouse_phase, rouse_on}
use Rattle.machine_spec.specs.Allowed.{has_name, can_finish, is_reload, reloads_object}
use Rattle.machine_laws.specs.Bones.{Module, Body, bones, module_bone, body_bone}
use Rattle.machine_laws.specs.Sound.{IsSound, FitsPhase, HasBody, phase_of}
use Rattle.machine_laws.proofs.Same.{either, changed_map, kept_map, map_at}
use Rattle.machine_laws.proofs.Counts.{bit}
use Rattle.machine_laws.proofs.Changes.{made_fits}
use Rattle.machine_laws.proofs.Again.{reload_there}
use Rattle.machine_laws.proofs.Moves.{made_is}
use Rattle.machine_laws.proofs.Kept.{finishes_entry, not_main}
use Rattle.import_machine.specs.Counts.{total, has_begun}
use Rattle.import_machine.proofs.Tally.{tally, bit_of, phased, pushed, opened_bit, ended, roused, made_total}

-- the counts after an event that ends a load of the one name, and may open one of the other
abbrev pub Moves : State → Option (List ℕ) → Option (List ℕ) → Reply × State → Type 0
Moves s gone begun p = (n : List ℕ) → total (bones p.1) n + bit_of gone n ≡ total (bones s) n + cond (has_begun p.0) (bit_of begun n) 0

abbrev pub Still : State → Reply × State → Type 0
Still s p = (n : List ℕ) → total (bones p.1) n ≡ total (bones s) n

module _ (s : State) (p : Reply × State) where
  pub quiet : bones p.1 ≡ bones s → Still s p
  quiet is n = ap (λ b. total b n) is

  pub stays : Still s p → Moves s None None p
  stays h n =
      let e : total (bones p.1) n ≡ total (bones s) n = h n in
      elim (has_begun p.0) as (λ c. total (bones p.1) n + 0 ≡ total (bones s) n + cond c 0 0) [ true ↦ omega arith | false ↦ omega arith ]

  pub unbegun : (begun : Option (List ℕ)) → Still s p → has_begun p.0 ≡ false → Moves s None begun p
  unbegun begun h is n =
      let e : total (bones p.1) n ≡ total (bones s) n = h n in
      let sum : total (bones p.1) n + 0 ≡ total (bones s) n + 0 = omega arith in
      sum ∙ ap (λ c. total (bones s) n + cond c (bit_of begun n) 0) (sym is)

  pub has_opened : (m : List ℕ) → ((n : List ℕ) → total (bones p.1) n ≡ total (bones s) n + bit (pointwise nat_eq m n)) → has_begun p.0 ≡ true → Moves s None (Some m) p
  has_opened m h is n =
      let e : total (bones p.1) n ≡ total (bones s) n + bit (pointwise nat_eq m n) = h n in
      let sum : total (bones p.1) n + 0 ≡ total (bones s) n + bit (pointwise nat_eq m n) = omega arith in
      sum ∙ ap (λ c. total (bones s) n + cond c (bit (pointwise nat_eq m n)) 0) (sym is)

  pub has_ended : (m : List ℕ) → ((n : List ℕ) → total (bones p.1) n + bit (pointwise nat_eq m n) ≡ total (bones s) n) → Moves s (Some m) None p
  has_ended m h n =
      let e : total (bones p.1) n + bit (pointwise nat_eq m n) ≡ total (bones s) n = h n in
      elim (has_begun p.0) as (λ c. total (bones p.1) n + bit (pointwise nat_eq m n) ≡ total (bones s) n + cond c 0 0) [ true ↦ omega arith | false ↦ omega arith ]

rests : (stage : LoadStage) → phase_of stage ≡ phases.Lazy → is_open stage ≡ false
rests stages.Resting h = refl
rests stages.Open h = cc
rests stages.Ended h = refl

module _ (s : State) (t : ℕ) where
  waits : (n : List ℕ) (blocked : Reply) (begun : Option (List ℕ)) → has_begun blocked ≡ false → Moves s None begun (wait_on s t n blocked)
  waits n blocked begun h = unbegun s (wait_on s t n blocked) begun (λ m. refl) (either (λ r. has_begun r ≡ false) (closes s.locks t n) _ _ h refl)

  asks_object : (m : ModRef) (o : Option Object) → Still s (ask_object s t m o)
  asks_object m None = λ n. refl
  asks_object m (Some o) = either (Still s) (is_initialising o.phase && not (owns s.locks t o.spec.name)) _ _ (λ n. refl) (λ n. refl)

  asks_none : (n : List ℕ) (missing : Reply × State) → Still s missing → Still s (ask_none s t n missing)
  asks_none n missing h = either (Still s) (is_free s.locks t n) _ _ h (λ n. refl)

  pub asks : (n : List ℕ) (missing : Reply × State) → Still s missing → (slot : Option Slot) → Still s (ask_slot s t n missing slot)
  asks n missing h None = asks_none n missing h
  asks n missing h (Some slots.Absent) = asks_none n missing h
  asks n missing h (Some slots.Halted) = λ n. refl
  asks n missing h (Some (slots.Module m)) = asks_object m (slice_get s.table.objects m.mid)

  enters : (mid : ℕ) (n : List ℕ) (r : Option Reload) → Still s (enter s t mid n r)
  enters mid n None = λ n. refl
  enters mid n (Some r) = λ n. refl

  pub begins_on : (mid : ℕ) (raw : Bool) (o : Option Object) → Still s (reload_begin_on s t mid raw o)
  begins_on mid raw None = λ n. refl
  begins_on mid raw (Some o) =
      either (Still s) (is_built_in o.spec.kind) _ _ (λ n. refl)
      (either (Still s) (sleeping s t raw o) _ _ (λ n. refl)
      (either (Still s) (is_entry mid (get s.table.cache o.spec.name)) _ _ (enters mid o.spec.name (get s.table.reloading o.spec.name)) (λ n. refl)))

module _ (s : State) (sound : IsSound s) (t : ℕ) where
  pub adds : (spec : Spec) (text : List ℕ) → Moves s None (Some spec.name) (add s t spec text)
  adds spec text = has_opened s (add s t spec text) spec.name
      (λ n. ap (λ b. total b n) (made_is s spec phases.Initialising load_kinds.Plain t text stages.Open) ∙ made_total (bones s) sound t spec.name phases.Initialising load_kinds.Plain stages.Open n) refl

  pub adds_lazy : (spec : Spec) (text : List ℕ) → Still s (add_lazy s t spec text)
  adds_lazy spec text n =
      let more = ap (λ b. total b n) (made_is s spec phases.Lazy load_kinds.Lazy t text stages.Resting) ∙ made_total (bones s) sound t spec.name phases.Lazy load_kinds.Lazy stages.Resting n in
      more ∙ omega arith

  -- a load ends well or badly
  finishes_object : (load : ℕ) (good : Bool) (l : Load) (o : Option Object) → slice_get s.table.loads load ≡ Some l → slice_get s.table.objects l.mid ≡ o → can_finish t (Some l) ≡ true
      → Moves s (option_map (λ o. o.spec.name) o) None (finish_object s t load good l o)
  finishes_object load good l None is there can = stays s (replies.Done, s) (λ n. refl)
  finishes_object load good l (Some o) is there can =
      let parts = and_parts (is_open l.stage && (l.thread == t)) (is_imported l.kind) can in
      let opened = and_parts (is_open l.stage) (l.thread == t) parts.0 in
      let after : State = (finish_entry s l.kind good o.spec.name).1 in
      has_ended s (finish_object s t load good l (Some o)) o.spec.name (λ n.
      ap (λ k. k + bit (pointwise nat_eq o.spec.name n)) (
      ap (λ (ms : List Module). tally ms (bones (closed t load l.mid o.spec.name after)).bodies n) (changed_map module_bone _ (λ (m : Module). record m { phase = phases.Ready }) (λ o. refl) after.table.objects l.mid)
      ∙ phased (bones after).modules l.mid phases.Ready (bones (closed t load l.mid o.spec.name after)).bodies n
      ∙ ap (λ (ls : List Body). tally (bones after).modules ls n) (changed_map body_bone _ (λ (l : Body). record l { stage = stages.Ended }) (λ l. refl) after.table.loads load)
      ∙ ap (λ b. tally b.modules (changed (λ (l : Body). record l { stage = stages.Ended }) b.bodies load) n) (finishes_entry s t l.kind good o.spec.name))
      ∙ ended (bones s).modules (bones s).bodies load (body_bone l) (module_bone o) n (map_at body_bone s.table.loads load l is) (map_at module_bone s.table.objects l.mid o there) opened.0 (not_main l.kind parts.1))

  pub finishes : (load : ℕ) (good : Bool) (l : Option Load) → slice_get s.table.loads load ≡ l → can_finish t l ≡ true
      → Moves s (option_and_then (λ l. name_of s l.mid) l) None (finish_load s t load good l)
  finishes load good None is can = absurd (false≢true can)
  finishes load good (Some l) is can = finishes_object load good l (slice_get s.table.objects l.mid) is refl can

  -- a reload begins
  starts : (mid : ℕ) (spec : Spec) (text : List ℕ) (o : Object) → slice_get s.table.objects mid ≡ Some o → o.spec.name ≡ spec.name → Moves s None (Some spec.name) (reload_start s t mid spec text)
  starts mid spec text o is named =
      let body : Body = record { kind = load_kinds.Reload; thread = t; mid = mid; stage = stages.Open } in
      has_opened s (reload_start s t mid spec text) spec.name (λ n.
      ap (λ (ms : List Module). tally ms (bones (reload_start s t mid spec text).1).bodies n) (kept_map module_bone (restarted_object spec) (λ o. refl) s.table.objects mid)
      ∙ ap (λ (ls : List Body). tally (bones s).modules ls n) (map-append body_bone s.table.loads _)
      ∙ pushed (bones s).modules (bones s).bodies body n
      ∙ ap (λ k. total (bones s) n + k) (opened_bit (bones s).modules body (module_bone o) n (map_at module_bone s.table.objects mid o is) refl refl)
      ∙ ap (λ z. total (bones s) n + bit (pointwise nat_eq z n)) named) refl

  pub takes_again : (mid : ℕ) (spec : Spec) (text : List ℕ) (o : Option Object) → slice_get s.table.objects mid ≡ o → has_name o spec.name ≡ true → Moves s None (Some spec.name) (reload_take s t mid spec text)
  takes_again mid spec text None is h = absurd (false≢true h)
  takes_again mid spec text (Some o) is h =
      either (Moves s None (Some spec.name)) (is_free s.locks t spec.name) _ _
      (either (Moves s None (Some spec.name)) (is_entry mid (get s.table.cache spec.name)) _ _
      (starts mid spec text o is ((bytes_eq-Decides o.spec.name spec.name).0 h))
      (unbegun s (replies.NotThere, s) (Some spec.name) (λ n. refl) refl))
      (waits s t spec.name replies.Deadlock (Some spec.name) refl)

  -- a reload ends, without a load or with one
  pub leaves : (o : Option Object) → Still s (reload_end_on s t None o)
  leaves None = λ n. refl
  leaves (Some o) = λ n. refl

  leaves_by : (mid : ℕ) (n : List ℕ) (load : ℕ) (r : Option Reload) → get s.table.reloading n ≡ r → is_reload t mid (Some load) r ≡ true → Moves s (Some n) None (reload_leave s t n (Some load))
  leaves_by mid n load None is h = absurd (false≢true h)
  leaves_by mid n load (Some r) is h =
      let parts = and_parts ((r.thread == t) && (r.mid == mid)) (is_same_load r.load (Some load)) h in
      let has = same_load r.load (Some load) parts.1 in
      let mine = sound.reloads n r is in
      let body : Body = record { kind = load_kinds.Reload; thread = r.thread; mid = r.mid; stage = stages.Open } in
      let after : State = (reload_leave s t n (Some load)).1 in
      has_ended s (reload_leave s t n (Some load)) n (λ k.
      ap (λ z. total (bones after) k + bit (pointwise nat_eq z k)) (sym mine.2)
      ∙ ap (λ (ls : List Body). tally (bones s).modules ls k + bit (pointwise nat_eq mine.0.name k)) (changed_map body_bone _ (λ (l : Body). record l { stage = stages.Ended }) (λ l. refl) s.table.loads load)
      ∙ ended (bones s).modules (bones s).bodies load body mine.0 k (reload_there (bones s) sound n r load is has) mine.1 refl refl)

  pub ends_again : (mid load : ℕ) (o : Option Object) → reloads_object s t mid (Some load) o ≡ true → Moves s (option_map (λ o. o.spec.name) o) None (reload_end_on s t (Some load) o)
  ends_again mid load None h = absurd (false≢true h)
  ends_again mid load (Some o) h = leaves_by mid o.spec.name load (get s.table.reloading o.spec.name) refl h

  -- a lazy module is roused
  opens_lazy : (mid : ℕ) (o : Object) (load : ℕ) (l : Option Load) → slice_get s.table.objects mid ≡ Some o → o.load ≡ Some load → slice_get s.table.loads load ≡ l → HasBody (bones s) mid (module_bone o) → o.phase ≡ phases.Lazy
      → Moves s None (Some o.spec.name) (open_lazy s t mid o.spec.name load l)
  opens_lazy mid o load None is made_by at has lazy = unbegun s (replies.Ready, s) (Some o.spec.name) (λ n. refl) refl
  opens_lazy mid o load (Some l) is made_by at has lazy =
      let b = bones s in
      let body = body_bone l in
      let body_at : slice_get b.bodies load ≡ Some body = map_at body_bone s.table.loads load l at in
      let index : has.0 ≡ load = let e : Some has.0 ≡ Some load = sym has.2 ∙ made_by in cc in
      let same : has.1 ≡ body = let e : Some has.1 ≡ Some body = sym has.3 ∙ ap (slice_get b.bodies) index ∙ body_at in cc in
      let own_mid : l.mid ≡ mid = ap (λ (z : Body). z.mid) (sym same) ∙ has.4 in
      let imported : is_imported l.kind ≡ true = ap (λ (z : Body). is_imported z.kind) (sym same) ∙ has.5 in
      let there : slice_get b.modules l.mid ≡ Some (module_bone o) = ap (slice_get b.modules) own_mid ∙ map_at module_bone s.table.objects mid o is in
      let fits = sound.bodies load body body_at in
      let own : fits.0 ≡ module_bone o = let e : Some fits.0 ≡ Some (module_bone o) = sym fits.1 ∙ there in cc in
      let made = made_fits load body fits.0 l.kind imported fits.2 in
      let closed_now : is_open l.stage ≡ false = rests l.stage (sym made.1 ∙ ap (λ (z : Module). z.phase) own ∙ lazy) in
      let after : State = (open_lazy s t mid o.spec.name load (Some l)).1 in
      has_opened s (open_lazy s t mid o.spec.name load (Some l)) o.spec.name (λ n.
      ap (λ (ms : List Module). tally ms (bones after).bodies n) (changed_map module_bone _ (λ (m : Module). record m { phase = phases.Initialising }) (λ o. refl) s.table.objects mid)
      ∙ phased b.modules mid phases.Initialising (bones after).bodies n
      ∙ ap (λ (ls : List Body). tally b.modules ls n) (changed_map body_bone _ (λ (l : Body). record l { stage = stages.Open; thread = t }) (λ l. refl) s.table.loads load)
      ∙ roused b.modules b.bodies load t body (module_bone o) n body_at there closed_now (not_main l.kind imported)) refl

  rouses_lazy : (mid : ℕ) (o : Object) (load : Option ℕ) → slice_get s.table.objects mid ≡ Some o → o.load ≡ load → HasBody (bones s) mid (module_bone o) → o.phase ≡ phases.Lazy → Moves s None (Some o.spec.name) (rouse_lazy s t mid o.spec.name load)
  rouses_lazy mid o None is made_by has lazy = unbegun s (replies.Ready, s) (Some o.spec.name) (λ n. refl) refl
  rouses_lazy mid o (Some load) is made_by has lazy =
      either (Moves s None (Some o.spec.name)) (is_free s.locks t o.spec.name) _ _
      (opens_lazy mid o load (slice_get s.table.loads load) is made_by refl has lazy)
      (waits s t o.spec.name replies.Deadlock (Some o.spec.name) refl)

  rouses_phase : (mid : ℕ) (o : Object) (phase : Phase) → slice_get s.table.objects mid ≡ Some o → o.phase ≡ phase → FitsPhase (bones s) mid (module_bone o) phase → Moves s None (Some o.spec.name) (rouse_phase s t mid o phase)
  rouses_phase mid o phases.Ready is at fits = unbegun s (replies.Ready, s) (Some o.spec.name) (λ n. refl) refl
  rouses_phase mid o phases.Initialising is at fits =
      either (Moves s None (Some o.spec.name)) (owns s.locks t o.spec.name) _ _
      (unbegun s (replies.Ready, s) (Some o.spec.name) (λ n. refl) refl)
      (waits s t o.spec.name (replies.Cycle (module_of o.spec mid)) (Some o.spec.name) refl)
  rouses_phase mid o phases.Lazy is at fits = rouses_lazy mid o o.load is refl fits at

  pub rouses : (mid : ℕ) (o : Option Object) → slice_get s.table.objects mid ≡ o → Moves s None (option_map (λ o. o.spec.name) o) (rouse_on s t mid o)
  rouses mid None is = unbegun s (replies.Ready, s) None (λ n. refl) refl
  rouses mid (Some o) is = rouses_phase mid o o.phase is refl (sound.modules mid (module_bone o) (map_at module_bone s.table.objects mid o is))
