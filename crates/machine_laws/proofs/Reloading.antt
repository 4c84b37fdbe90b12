-- Reloads and lazy modules keep what holds in every state.
use Rattle.std.proofs.Common.{◌≡◌, ℕ, ◌+◌, ◌≤◌, arith, Bool, true, false, cond, ◌&&◌, List, [], ◌∷◌, ◌++◌, length, Option, Some, None, refl, sym, ap, subst, ◌∙◌}
use Rattle.std.specs.Prelude.{slice_get, is_some, ◌==◌}
use Rattle.std.specs.FinMap.{get, insert, remove}
use Rattle.std.proofs.lemmas.Bool.{and_parts, false≢true, eqb-true}
use Rattle.std.proofs.lemmas.List.{map-append, length-map}
use Rattle.std.proofs.lemmas.Slice.Eq.{bytes_eq-Decides}
use Rattle.spec_core.specs.declared.spec.Spec.{Spec}
use Rattle.machine_events.specs.Loads.{is_same_load}
use Rattle.machine_events.proofs.Loads.{same_load}
use Rattle.machine_events.specs.Modules.{module_of}
use Rattle.machine_events.specs.declared.event.Reply.TheVariants as replies
use Rattle.module_lock.specs.Table.{is_free, owns, got, given}
use Rattle.module_table.specs.Lists.{changed}
use Rattle.module_table.specs.Tables.{reload_opened, restarted_object, with_phase, with_open}
use Rattle.module_table.specs.declared.module.Object.{Object}
use Rattle.module_table.specs.declared.module.Load.{Load}
use Rattle.module_table.specs.declared.module.Reload.{Reload}
use Rattle.module_table.specs.declared.module.LoadKind.TheVariants as load_kinds
use Rattle.module_table.specs.declared.module.LoadStage.TheVariants as stages
use Rattle.module_table.specs.declared.module.Phase.{Phase}
use Rattle.module_table.specs.declared.module.Phase.TheVariants as phases
use Rattle.machine_spec.specs.declared.state.State.{State}
use Rattle.machine_spec.specs.Parts.{is_built_in, is_imported}
use Rattle.machine_spec.specs.Waits.{wait_on}
use Rattle.machine_spec.specs.Variables.{sleeping}
use Rattle.machine_spec.specs.Reloads.{is_entry, enter, reload_begin_on, reload_start, reload_take, reload_leave, reload_end_on}
use Rattle.machine_spec.specs.Lazies.{open_lazy, rouse_lazy, rouse_phase, rouse_on}
use Rattle.machine_spec.specs.Allowed.{has_name, is_reload, reloads_object}
use Rattle.machine_laws.specs.Bones.{Bones, Module, Body, bones, module_bone, body_bone, counts_in, opens, held}
use Rattle.machine_laws.specs.Sound.{AreSound, IsSound, IsRunning, FitsPhase, HasBody}
use Rattle.machine_laws.proofs.Same.{either, changed_map, kept_map, map_at}
use Rattle.machine_laws.proofs.Lists.{changed_is}
use Rattle.machine_laws.proofs.Counts.{bit, counts_own, counts_there}
use Rattle.machine_laws.proofs.Facts.{sound_got, sound_given, sound_entered, sound_left, bumped_by}
use Rattle.machine_laws.proofs.Stages.{staged, opens_staged, sound_staged}
use Rattle.machine_laws.proofs.Again.{again, sound_again, opens_again, done_again, sound_done_again, opens_done, reload_there}
use Rattle.machine_laws.proofs.Kept.{Keeps, waits_on}

module _ (s : State) (sound : IsSound s) (t : ℕ) where
  enters : (mid : ℕ) (o : Object) (r : Option Reload) → slice_get s.table.objects mid ≡ Some o → Keeps (enter s t mid o.spec.name r)
  enters mid o (Some r) is = sound
  enters mid o None is = sound_entered (bones s) sound o.spec.name (record { thread = t; mid = mid; load = None }) (module_bone o) (map_at module_bone s.table.objects mid o is) refl tt

  begins_on : (mid : ℕ) (raw : Bool) (o : Option Object) → slice_get s.table.objects mid ≡ o → Keeps (reload_begin_on s t mid raw o)
  begins_on mid raw None is = sound
  begins_on mid raw (Some o) is =
      either Keeps (is_built_in o.spec.kind) _ _ sound
      (either Keeps (sleeping s t raw o) _ _ sound
      (either Keeps (is_entry mid (get s.table.cache o.spec.name)) _ _ (enters mid o (get s.table.reloading o.spec.name) is) sound))

  pub begins : (mid : ℕ) (raw : Bool) → Keeps (reload_begin_on s t mid raw (slice_get s.table.objects mid))
  begins mid raw = begins_on mid raw (slice_get s.table.objects mid) refl

  -- what a reload's start leaves, where the reload of the name is this one
  abbrev started : ℕ → Spec → List ℕ → Option Reload → State
  started mid spec text o = record s {
    table = record (reload_opened s.table spec.name (length s.table.loads) o) {
      objects = changed (restarted_object spec) s.table.objects mid;
      loads = s.table.loads ++ record { kind = load_kinds.Reload; thread = t; mid = mid; text = text; stage = stages.Open } ∷ [];
    };
    locks = got s.locks t spec.name;
  }

  started_is : (mid : ℕ) (spec : Spec) (text : List ℕ) (r : Reload)
      → bones (started mid spec text (Some r)) ≡ record (bones s) {
        locks = got s.locks t spec.name;
        bodies = (bones s).bodies ++ record { kind = load_kinds.Reload; thread = t; mid = mid; stage = stages.Open } ∷ [];
        reloads = insert s.table.reloading spec.name (record { thread = r.thread; mid = r.mid; load = Some (length (bones s).bodies) });
      }
  started_is mid spec text r =
      let b = bones (started mid spec text (Some r)) in
      let bodies : List Body = (bones s).bodies ++ record { kind = load_kinds.Reload; thread = t; mid = mid; stage = stages.Open } ∷ [] in
      ap (λ ms. record b { modules = ms }) (kept_map module_bone (restarted_object spec) (λ o. refl) s.table.objects mid)
      ∙ ap (λ ls. record b { modules = (bones s).modules; bodies = ls }) (map-append body_bone s.table.loads _)
      ∙ ap (λ n. record b { modules = (bones s).modules; bodies = bodies; reloads = insert s.table.reloading spec.name (record { thread = r.thread; mid = r.mid; load = Some n }) }) (sym (length-map s.table.loads body_bone))

  sound_started : (mid : ℕ) (spec : Spec) (text : List ℕ) (r : Reload) (o : Object) → slice_get s.table.objects mid ≡ Some o → o.spec.name ≡ spec.name → r.thread ≡ t → r.mid ≡ mid
      → is_free s.locks t spec.name ≡ true → get s.locks.waits t ≡ None → IsRunning (bones s) t → AreSound (bones (started mid spec text (Some r)))
  sound_started mid spec text r o is named thread same_mid free idle_now running =
      let b : Bones = record (bones s) { locks = got s.locks t spec.name } in
      let first : AreSound b = sound_got (bones s) sound t spec.name free idle_now running in
      let own_module = module_bone o in
      let there : slice_get b.modules r.mid ≡ Some own_module = ap (slice_get b.modules) same_mid ∙ map_at module_bone s.table.objects mid o is in
      let going : is_some (get b.ended r.thread) ≡ false = ap (λ u. is_some (get b.ended u)) thread ∙ running.going in
      let body : Body = record { kind = load_kinds.Reload; thread = r.thread; mid = r.mid; stage = stages.Open } in
      let after = again b first spec.name r own_module there named going in
      let covers : (u : ℕ) (k : List ℕ) → opens after u k ≤ held b.locks u k =
      bumped_by (bones s) sound t spec.name free (λ u k. bit (counts_in b u k body)) (opens after)
      (λ u k. let e : opens after u k ≡ opens b u k + bit (counts_in b u k body) = opens_again b first spec.name r own_module there named going u k in omega arith)
      (λ u k. elim (counts_in b u k body) as (λ c. bit c ≤ 1) [ true ↦ omega arith | false ↦ omega arith ])
      (λ u k h. let own = counts_own b u k body own_module there (one_is (counts_in b u k body) h) in (own.0 ∙ thread, own.1 ∙ named))
      in
      subst AreSound (sym (started_is mid spec text r ∙ ap (λ z. record (bones s) {
        locks = got s.locks t spec.name;
        bodies = (bones s).bodies ++ record { kind = load_kinds.Reload; thread = z; mid = mid; stage = stages.Open } ∷ [];
        reloads = insert s.table.reloading spec.name (record { thread = r.thread; mid = r.mid; load = Some (length (bones s).bodies) });
      }) (sym thread) ∙ ap (λ z. record (bones s) {
        locks = got s.locks t spec.name;
        bodies = (bones s).bodies ++ record { kind = load_kinds.Reload; thread = r.thread; mid = z; stage = stages.Open } ∷ [];
        reloads = insert s.table.reloading spec.name (record { thread = r.thread; mid = r.mid; load = Some (length (bones s).bodies) });
      }) (sym same_mid)))
      (sound_again b first spec.name r own_module there named going covers)
    where
      one_is : (c : Bool) → bit c ≡ 1 → c ≡ true
      one_is true h = refl
      one_is false h = absurd (omega arith)

  starts : (mid : ℕ) (spec : Spec) (text : List ℕ) (o : Object) (r : Option Reload) → slice_get s.table.objects mid ≡ Some o → o.spec.name ≡ spec.name → is_reload t mid None r ≡ true
      → is_free s.locks t spec.name ≡ true → get s.locks.waits t ≡ None → IsRunning (bones s) t → AreSound (bones (started mid spec text r))
  starts mid spec text o None is named h free idle_now running = absurd (false≢true h)
  starts mid spec text o (Some r) is named h free idle_now running =
      let parts = and_parts ((r.thread == t) && (r.mid == mid)) (is_same_load r.load None) h in
      let who = and_parts (r.thread == t) (r.mid == mid) parts.0 in
      sound_started mid spec text r o is named (eqb-true r.thread t who.0) (eqb-true r.mid mid who.1) free idle_now running

  takes_on : (mid : ℕ) (spec : Spec) (text : List ℕ) (o : Option Object) → slice_get s.table.objects mid ≡ o → reloads_object s t mid None o ≡ true → has_name o spec.name ≡ true
      → get s.locks.waits t ≡ None → IsRunning (bones s) t → Keeps (reload_take s t mid spec text)
  takes_on mid spec text None is runs named idle_now running = absurd (false≢true runs)
  takes_on mid spec text (Some o) is runs named idle_now running =
      let name : o.spec.name ≡ spec.name = (bytes_eq-Decides o.spec.name spec.name).0 named in
      let mine : is_reload t mid None (get s.table.reloading spec.name) ≡ true = ap (λ n. is_reload t mid None (get s.table.reloading n)) (sym name) ∙ runs in
      elim (is_free s.locks t spec.name) as (λ b. is_free s.locks t spec.name ≡ b → Keeps (cond b (cond (is_entry mid (get s.table.cache spec.name)) (reload_start s t mid spec text) (replies.NotThere, s)) (wait_on s t spec.name replies.Deadlock))) [
        | true ↦ λ free. either Keeps (is_entry mid (get s.table.cache spec.name)) _ _ (starts mid spec text o (get s.table.reloading spec.name) is name mine free idle_now running) sound
        | false ↦ λ _. waits_on s sound t spec.name replies.Deadlock
      ] refl

  pub takes_again : (mid : ℕ) (spec : Spec) (text : List ℕ) → reloads_object s t mid None (slice_get s.table.objects mid) ≡ true → has_name (slice_get s.table.objects mid) spec.name ≡ true
      → get s.locks.waits t ≡ None → IsRunning (bones s) t → Keeps (reload_take s t mid spec text)
  takes_again mid spec text = takes_on mid spec text (slice_get s.table.objects mid) refl

  -- a reload ends, with its load or without one
  leaves_with : (n : List ℕ) (load : ℕ) (r : Reload) → get s.table.reloading n ≡ Some r → r.load ≡ Some load → r.thread ≡ t → Keeps (reload_leave s t n (Some load))
  leaves_with n load r runs has thread =
      let b = bones s in
      let body : Body = record { kind = load_kinds.Reload; thread = r.thread; mid = r.mid; stage = stages.Open } in
      let at = reload_there b sound n r load runs has in
      let after = done_again b sound n r load runs has in
      let mine = sound.reloads n r runs in
      let counts : counts_in b r.thread mine.0.name body ≡ true = counts_there b body mine.0 mine.1 refl refl in
      let total : (u : ℕ) (k : List ℕ) → opens after u k + bit (counts_in b u k body) ≡ opens b u k + 0 = opens_done b sound n r load runs has in
      let less : opens after r.thread mine.0.name + 1 ≡ opens b r.thread mine.0.name + 0 = ap (λ c. opens after r.thread mine.0.name + bit c) (sym counts) ∙ total r.thread mine.0.name in
      let most = sound.covered r.thread mine.0.name in
      let kept : AreSound after = sound_done_again b sound n r load runs has (λ u k. let e = total u k in let c = sound.covered u k in omega arith) in
      let done : AreSound (record after { locks = given b.locks r.thread mine.0.name }) = sound_given after kept r.thread mine.0.name (omega arith) in
      let here : AreSound (record after { locks = given b.locks t n }) = subst (λ u. AreSound (record after { locks = given b.locks u n })) thread (subst (λ k. AreSound (record after { locks = given b.locks r.thread k })) mine.2 done) in
      subst AreSound (sym (
      ap (λ ls. record b { bodies = ls; reloads = remove b.reloads n; locks = given b.locks t n }) (changed_map body_bone _ (λ (l : Body). record l { stage = stages.Ended }) (λ l. refl) s.table.loads load)
      ∙ ap (λ ls. record b { bodies = ls; reloads = remove b.reloads n; locks = given b.locks t n }) (changed_is (λ (l : Body). record l { stage = stages.Ended }) b.bodies load body at)
      )) here

  leaves : (mid : ℕ) (n : List ℕ) (load : Option ℕ) (r : Option Reload) → get s.table.reloading n ≡ r → is_reload t mid load r ≡ true → Keeps (reload_leave s t n load)
  leaves mid n load None is h = absurd (false≢true h)
  leaves mid n None (Some r) is h = sound_left (bones s) sound n
  leaves mid n (Some load) (Some r) is h =
      let parts = and_parts ((r.thread == t) && (r.mid == mid)) (is_same_load r.load (Some load)) h in
      let who = and_parts (r.thread == t) (r.mid == mid) parts.0 in
      leaves_with n load r is (same_load r.load (Some load) parts.1) (eqb-true r.thread t who.0)

  pub ends_again : (mid : ℕ) (load : Option ℕ) (o : Option Object) → reloads_object s t mid load o ≡ true → Keeps (reload_end_on s t load o)
  ends_again mid load None h = sound
  ends_again mid load (Some o) h = leaves mid o.spec.name load (get s.table.reloading o.spec.name) refl h

  -- a lazy module is roused
  opens_lazy : (mid : ℕ) (o : Object) (load : ℕ) (l : Option Load) → slice_get s.table.objects mid ≡ Some o → o.load ≡ Some load → slice_get s.table.loads load ≡ l → HasBody (bones s) mid (module_bone o)
      → is_free s.locks t o.spec.name ≡ true → get s.locks.waits t ≡ None → IsRunning (bones s) t → Keeps (open_lazy s t mid o.spec.name load l)
  opens_lazy mid o load None is made_by at has free idle_now running = sound
  opens_lazy mid o load (Some l) is made_by at has free idle_now running =
      let b : Bones = record (bones s) { locks = got s.locks t o.spec.name } in
      let first : AreSound b = sound_got (bones s) sound t o.spec.name free idle_now running in
      let own_module = module_bone o in
      let body = body_bone l in
      let body_at : slice_get b.bodies load ≡ Some body = map_at body_bone s.table.loads load l at in
      let index : has.0 ≡ load = let e : Some has.0 ≡ Some load = sym has.2 ∙ made_by in cc in
      let same : has.1 ≡ body = let e : Some has.1 ≡ Some body = sym has.3 ∙ ap (slice_get b.bodies) index ∙ body_at in cc in
      let own_mid : l.mid ≡ mid = ap (λ (z : Body). z.mid) (sym same) ∙ has.4 in
      let imported = ap (λ (z : Body). is_imported z.kind) (sym same) ∙ has.5 in
      let there : slice_get b.modules l.mid ≡ Some own_module = ap (slice_get b.modules) own_mid ∙ map_at module_bone s.table.objects mid o is in
      let after = staged b first load body own_module body_at there imported t stages.Open in
      let new : Body = record { kind = l.kind; thread = t; mid = l.mid; stage = stages.Open } in
      let covers : (u : ℕ) (k : List ℕ) → opens after u k ≤ held b.locks u k =
      bumped_by (bones s) sound t o.spec.name free (λ u k. bit (counts_in b u k new)) (opens after)
      (λ u k. let e : opens after u k + bit (counts_in b u k body) ≡ opens b u k + bit (counts_in b u k new) = opens_staged b first load body own_module body_at there imported t stages.Open u k in omega arith)
      (λ u k. elim (counts_in b u k new) as (λ c. bit c ≤ 1) [ true ↦ omega arith | false ↦ omega arith ])
      (λ u k h. counts_own b u k new own_module there (one_is (counts_in b u k new) h))
      in
      let done : AreSound after = sound_staged b first load body own_module body_at there imported t stages.Open covers (λ _. running.going) in
      let state : State = record s { table = with_phase (with_open s.table load t) mid phases.Initialising; locks = got s.locks t o.spec.name } in
      subst AreSound (sym (
      ap (λ ls. record (bones state) { bodies = ls }) (changed_map body_bone _ (λ (l : Body). record l { stage = stages.Open; thread = t }) (λ l. refl) s.table.loads load ∙ changed_is (λ (l : Body). record l { stage = stages.Open; thread = t }) b.bodies load body body_at)
      ∙ ap (λ ms. record after { modules = ms }) (
      changed_map module_bone _ (λ (m : Module). record m { phase = phases.Initialising }) (λ o. refl) s.table.objects mid
      ∙ ap (changed (λ (m : Module). record m { phase = phases.Initialising }) b.modules) (sym own_mid)
      ∙ changed_is (λ (m : Module). record m { phase = phases.Initialising }) b.modules l.mid own_module there)
      )) done
    where
      one_is : (c : Bool) → bit c ≡ 1 → c ≡ true
      one_is true h = refl
      one_is false h = absurd (omega arith)

  rouses_lazy : (mid : ℕ) (o : Object) (load : Option ℕ) → slice_get s.table.objects mid ≡ Some o → o.load ≡ load → HasBody (bones s) mid (module_bone o) → get s.locks.waits t ≡ None → IsRunning (bones s) t → Keeps (rouse_lazy s t mid o.spec.name load)
  rouses_lazy mid o None is made_by has idle_now running = sound
  rouses_lazy mid o (Some load) is made_by has idle_now running =
      elim (is_free s.locks t o.spec.name) as (λ b. is_free s.locks t o.spec.name ≡ b → Keeps (cond b (open_lazy s t mid o.spec.name load (slice_get s.table.loads load)) (wait_on s t o.spec.name replies.Deadlock))) [
        | true ↦ λ free. opens_lazy mid o load (slice_get s.table.loads load) is made_by refl has free idle_now running
        | false ↦ λ _. waits_on s sound t o.spec.name replies.Deadlock
      ] refl

  rouses_phase : (mid : ℕ) (o : Object) (phase : Phase) → slice_get s.table.objects mid ≡ Some o → FitsPhase (bones s) mid (module_bone o) phase → get s.locks.waits t ≡ None → IsRunning (bones s) t → Keeps (rouse_phase s t mid o phase)
  rouses_phase mid o phases.Ready is fits idle_now running = sound
  rouses_phase mid o phases.Initialising is fits idle_now running = either Keeps (owns s.locks t o.spec.name) _ _ sound (waits_on s sound t o.spec.name (replies.Cycle (module_of o.spec mid)))
  rouses_phase mid o phases.Lazy is fits idle_now running = rouses_lazy mid o o.load is refl fits idle_now running

  rouses_on : (mid : ℕ) (o : Option Object) → slice_get s.table.objects mid ≡ o → get s.locks.waits t ≡ None → IsRunning (bones s) t → Keeps (rouse_on s t mid o)
  rouses_on mid None is idle_now running = sound
  rouses_on mid (Some o) is idle_now running = rouses_phase mid o o.phase is (sound.modules mid (module_bone o) (map_at module_bone s.table.objects mid o is)) idle_now running

  pub rouses : (mid : ℕ) → get s.locks.waits t ≡ None → IsRunning (bones s) t → Keeps (rouse_on s t mid (slice_get s.table.objects mid))
  rouses mid = rouses_on mid (slice_get s.table.objects mid) refl
