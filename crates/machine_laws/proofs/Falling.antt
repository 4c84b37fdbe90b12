-- The counts fall exactly where locks are given back.
use Rattle.std.proofs.Common.{◌≡◌, ℕ, suc, ◌<◌, arith, Bool, true, ◌&&◌, List, Option, Some, None, refl, sym, ap, subst, ◌∙◌}
use Rattle.std.specs.Prelude.{◌==◌, ◌↔◌, slice_get, IsTrue, option_and_then}
use Rattle.std.specs.Option.{option_map}
use Rattle.std.specs.FinMap.{get}
use Rattle.std.proofs.lemmas.Bool.{and_parts, false≢true, eqb-true}
use Rattle.std.proofs.lemmas.Option.{same_Some}
use Rattle.machine_events.specs.Loads.{is_same_load}
use Rattle.machine_events.proofs.Loads.{same_load}
use Rattle.machine_events.specs.declared.event.Event.{Event}
use Rattle.machine_events.specs.declared.event.Event.TheVariants as events
use Rattle.machine_events.specs.declared.event.Entry.{Entry}
use Rattle.module_lock.specs.Table.{given}
use Rattle.module_table.specs.declared.module.Object.{Object}
use Rattle.module_table.specs.declared.module.Load.{Load}
use Rattle.module_table.specs.declared.module.Reload.{Reload}
use Rattle.module_table.specs.declared.module.LoadKind.TheVariants as load_kinds
use Rattle.module_table.specs.declared.module.LoadStage.TheVariants as stages
use Rattle.machine_spec.specs.declared.state.State.{State}
use Rattle.machine_spec.specs.Parts.{is_open, is_imported}
use Rattle.machine_spec.specs.Bodies.{finish_entry, finish_object, finish_load}
use Rattle.machine_spec.specs.Reloads.{reload_end_on}
use Rattle.machine_spec.specs.Allowed.{allowed, can_finish, has_spare, has_body, is_reload, reloads_object}
use Rattle.machine_spec.specs.Gives.{gives, name_of}
use Rattle.machine_spec.specs.Legal.{IsLegal, replay}
use Rattle.machine_spec.specs.Step.{step}
use Rattle.machine_laws.specs.Begun.{Begun, first}
use Rattle.machine_laws.specs.Bones.{Bones, Module, Body, bones, module_bone, body_bone, counts_in, held}
use Rattle.machine_laws.specs.Sound.{IsSound}
use Rattle.machine_laws.proofs.Always.{sound_always}
use Rattle.machine_laws.proofs.Again.{reload_there}
use Rattle.machine_laws.proofs.Counts.{counts_there, some_open}
use Rattle.machine_laws.proofs.Kept.{not_main, sets_on, deletes_on, sets_tab, deletes_tab, adds_path, finishes_entry}
use Rattle.machine_laws.proofs.Leave.{fitting, spare}
use Rattle.machine_laws.proofs.Moves.{ns_same, main_same}
use Rattle.machine_laws.proofs.Same.{map_at}
use Rattle.machine_laws.specs.Counts.{count_of, Falls}
use Rattle.machine_laws.proofs.Tables.{count, given_here, given_falls}
use Rattle.machine_laws.proofs.Rising.{quiet, asks, takes, begins_on, takes_again, rouses}

-- the name whose lock a load or a reload gives back at its end
module _ (s : State) where
  named : (mid : ℕ) (o : Object) → slice_get s.table.objects mid ≡ Some o → name_of s mid ≡ Some o.spec.name
  named mid o is = ap (option_map (λ (x : Object). x.spec.name)) is

  of_load : (load : ℕ) (l : Load) (good : Bool) → slice_get s.table.loads load ≡ Some l → gives s (events.Finish load good) ≡ name_of s l.mid
  of_load load l good is = ap (option_and_then (λ (x : Load). name_of s x.mid)) is

-- ---- a count that falls is that of a lock that is given back

module _ (s : State) (t : ℕ) (n : List ℕ) where
  finish_object_falls : (load : ℕ) (good : Bool) (l : Load) (o : Option Object) → slice_get s.table.objects l.mid ≡ o
      → count (finish_object s t load good l o).1.locks n < count s.locks n → name_of s l.mid ≡ Some n
  finish_object_falls load good l None is h = absurd (omega arith)
  finish_object_falls load good l (Some o) is h =
      let kept : (finish_entry s l.kind good o.spec.name).1.locks ≡ s.locks = ap (λ (b : Bones). b.locks) (finishes_entry s t l.kind good o.spec.name) in
      let h' : count (given s.locks t o.spec.name) n < count s.locks n = subst (λ z. count (given z t o.spec.name) n < count s.locks n) kept h in
      named s l.mid o is ∙ ap (λ z. Some z) (given_falls s.locks t o.spec.name n h')

  finish_falls : (load : ℕ) (good : Bool) (l : Option Load) → slice_get s.table.loads load ≡ l
      → count (finish_load s t load good l).1.locks n < count s.locks n → gives s (events.Finish load good) ≡ Some n
  finish_falls load good None is h = absurd (omega arith)
  finish_falls load good (Some l) is h = of_load s load l good is ∙ finish_object_falls load good l (slice_get s.table.objects l.mid) refl h

  leave_falls : (mid : ℕ) (load : Option ℕ) (o : Option Object) → slice_get s.table.objects mid ≡ o
      → count (reload_end_on s t load o).1.locks n < count s.locks n → gives s (events.ReloadEnd mid load) ≡ Some n
  leave_falls mid load None is h = absurd (omega arith)
  leave_falls mid None (Some o) is h = absurd (omega arith)
  leave_falls mid (Some load) (Some o) is h = named s mid o is ∙ ap (λ z. Some z) (given_falls s.locks t o.spec.name n h)

  pub falls_gives : (e : Event) → Falls s t e n → gives s e ≡ Some n
  falls_gives (events.Finish load good) h = finish_falls load good (slice_get s.table.loads load) refl h
  falls_gives (events.Release m) h = ap (λ z. Some z) (given_falls s.locks t m n h)
  falls_gives (events.AddLazy spec text) h = ap (λ z. Some z) (given_falls s.locks t spec.name n h)
  falls_gives (events.ReloadEnd mid load) h = leave_falls mid load (slice_get s.table.objects mid) refl h
  falls_gives (events.Ask m) h = absurd (let r = asks s t m n in omega arith)
  falls_gives (events.Take m) h = absurd (let r = takes s t m n in omega arith)
  falls_gives events.Wake h = absurd (omega arith)
  falls_gives (events.Add spec text) h = absurd (omega arith)
  falls_gives (events.GetVar mid x raw) h = absurd (omega arith)
  falls_gives (events.SetVar raw mid x v) h = absurd (let r = quiet s (step s t (events.SetVar raw mid x v)) (sets_on s t mid x v raw (slice_get s.table.objects mid)) n in omega arith)
  falls_gives (events.DelVar mid x raw) h = absurd (let r = quiet s (step s t (events.DelVar mid x raw)) (deletes_on s t mid x raw (slice_get s.table.objects mid)) n in omega arith)
  falls_gives (events.Names mid) h = absurd (omega arith)
  falls_gives (events.Source load) h = absurd (omega arith)
  falls_gives (events.Print text) h = absurd (omega arith)
  falls_gives events.PathGet h = absurd (omega arith)
  falls_gives (events.PathAdd at v) h = absurd (let r = quiet s (step s t (events.PathAdd at v)) (adds_path s t at v) n in omega arith)
  falls_gives (events.DirGet dir part) h = absurd (omega arith)
  falls_gives (events.DirSet dir listing) h = absurd (omega arith)
  falls_gives events.Invalidate h = absurd (omega arith)
  falls_gives (events.NsGet mid) h = absurd (omega arith)
  falls_gives (events.NsSet mid state) h = absurd (let r = quiet s (step s t (events.NsSet mid state)) (ns_same s mid state) n in omega arith)
  falls_gives (events.TabGet m) h = absurd (omega arith)
  falls_gives (events.TabSet m slot) h = absurd (let r = quiet s (step s t (events.TabSet m slot)) (sets_tab s t m slot) n in omega arith)
  falls_gives (events.TabDel m) h = absurd (let r = quiet s (step s t (events.TabDel m)) (deletes_tab s t m) n in omega arith)
  falls_gives (events.ReloadBegin mid raw) h = absurd (let r = begins_on s t mid raw (slice_get s.table.objects mid) n in omega arith)
  falls_gives (events.ReloadTake mid spec text) h = absurd (let r = takes_again s t mid spec text n in omega arith)
  falls_gives (events.Rouse mid) h = absurd (let r = rouses s t mid (slice_get s.table.objects mid) n in omega arith)
  falls_gives (events.Main spec text) h = absurd (let r = quiet s (step s t (events.Main spec text)) (main_same s t spec text) n in omega arith)
  falls_gives (events.End outcome spent) h = absurd (omega arith)

-- ---- a lock that is given back is its giver's, and its count falls by one

module _ (s : State) (sound : IsSound s) (t : ℕ) where
  -- an open load of t, Main aside, has its lock taken
  open_holds : (i : ℕ) (body : Body) (m : Module) → slice_get (bones s).bodies i ≡ Some body → slice_get (bones s).modules body.mid ≡ Some m → counts_in (bones s) t m.name body ≡ true → 0 < held s.locks t m.name
  open_holds i body m at there counts =
      let some = some_open (bones s) t m.name (bones s).bodies i body at counts in
      let most = sound.covered t m.name in
      omega arith

  finish_holds : (load : ℕ) (l : Load) (o : Object) → slice_get s.table.loads load ≡ Some l → slice_get s.table.objects l.mid ≡ Some o → can_finish t (Some l) ≡ true → 0 < held s.locks t o.spec.name
  finish_holds load l o is is_object can =
      let parts = and_parts (is_open l.stage && (l.thread == t)) (is_imported l.kind) can in
      let opened = and_parts (is_open l.stage) (l.thread == t) parts.0 in
      let there : slice_get (bones s).modules l.mid ≡ Some (module_bone o) = map_at module_bone s.table.objects l.mid o is_object in
      let counts : counts_in (bones s) l.thread o.spec.name (body_bone l) ≡ true = counts_there (bones s) (body_bone l) (module_bone o) there opened.0 (not_main l.kind parts.1) in
      open_holds load (body_bone l) (module_bone o) (map_at body_bone s.table.loads load l is) there
      (subst (λ u. counts_in (bones s) u o.spec.name (body_bone l) ≡ true) (eqb-true l.thread t opened.1) counts)

  finish_object_by_one : (load : ℕ) (good : Bool) (l : Load) (o : Option Object) (n : List ℕ) → slice_get s.table.loads load ≡ Some l → slice_get s.table.objects l.mid ≡ o → can_finish t (Some l) ≡ true → name_of s l.mid ≡ Some n
      → suc (count (finish_object s t load good l o).1.locks n) ≡ count s.locks n
  finish_object_by_one load good l None n is is_object can names = absurd (let none : name_of s l.mid ≡ None = ap (option_map (λ (x : Object). x.spec.name)) is_object in let e : None ≡ Some n = sym none ∙ names in cc)
  finish_object_by_one load good l (Some o) n is is_object can names =
      let same : o.spec.name ≡ n = same_Some o.spec.name n (sym (named s l.mid o is_object) ∙ names) in
      let kept : (finish_entry s l.kind good o.spec.name).1.locks ≡ s.locks = ap (λ (b : Bones). b.locks) (finishes_entry s t l.kind good o.spec.name) in
      subst (λ z. suc (count (given z t o.spec.name) n) ≡ count s.locks n) (sym kept)
      (subst (λ k. suc (count (given s.locks t o.spec.name) k) ≡ count s.locks k) same
      (given_here s.locks t o.spec.name (finish_holds load l o is is_object can)))

  finish_by_one : (load : ℕ) (good : Bool) (l : Option Load) (n : List ℕ) → slice_get s.table.loads load ≡ l → can_finish t l ≡ true → gives s (events.Finish load good) ≡ Some n
      → suc (count (finish_load s t load good l).1.locks n) ≡ count s.locks n
  finish_by_one load good None n is can names = absurd (false≢true can)
  finish_by_one load good (Some l) n is can names = finish_object_by_one load good l (slice_get s.table.objects l.mid) n is refl can (sym (of_load s load l good is) ∙ names)

  reload_holds : (m : List ℕ) (load : ℕ) (r : Reload) → get s.table.reloading m ≡ Some r → r.load ≡ Some load → r.thread ≡ t → 0 < held s.locks t m
  reload_holds m load r runs has thread =
      let body : Body = record { kind = load_kinds.Reload; thread = r.thread; mid = r.mid; stage = stages.Open } in
      let mine = sound.reloads m r runs in
      let counts : counts_in (bones s) r.thread mine.0.name body ≡ true = counts_there (bones s) body mine.0 mine.1 refl refl in
      subst (λ k. 0 < held s.locks t k) mine.2
      (open_holds load body mine.0 (reload_there (bones s) sound m r load runs has) mine.1
      (subst (λ u. counts_in (bones s) u mine.0.name body ≡ true) thread counts))

  leave_holds : (mid : ℕ) (m : List ℕ) (load : ℕ) (r : Option Reload) → get s.table.reloading m ≡ r → is_reload t mid (Some load) r ≡ true → 0 < held s.locks t m
  leave_holds mid m load None is h = absurd (false≢true h)
  leave_holds mid m load (Some r) is h =
      let parts = and_parts ((r.thread == t) && (r.mid == mid)) (is_same_load r.load (Some load)) h in
      let who = and_parts (r.thread == t) (r.mid == mid) parts.0 in
      reload_holds m load r is (same_load r.load (Some load) parts.1) (eqb-true r.thread t who.0)

  leave_by_one : (mid : ℕ) (load : Option ℕ) (o : Option Object) (n : List ℕ) → slice_get s.table.objects mid ≡ o → reloads_object s t mid load o ≡ true → gives s (events.ReloadEnd mid load) ≡ Some n
      → suc (count (reload_end_on s t load o).1.locks n) ≡ count s.locks n
  leave_by_one mid load None n is h names = absurd (false≢true h)
  leave_by_one mid None (Some o) n is h names = absurd (cc names)
  leave_by_one mid (Some load) (Some o) n is h names =
      let same : o.spec.name ≡ n = same_Some o.spec.name n (sym (named s mid o is) ∙ names) in
      subst (λ k. suc (count (given s.locks t o.spec.name) k) ≡ count s.locks k) same
      (given_here s.locks t o.spec.name (leave_holds mid o.spec.name load (get s.table.reloading o.spec.name) refl h))

  spare_by_one : (m n : List ℕ) → has_spare s t m ≡ true → m ≡ n → suc (count (given s.locks t m) n) ≡ count s.locks n
  spare_by_one m n h same =
      let more = spare s t m h in
      subst (λ k. suc (count (given s.locks t m) k) ≡ count s.locks k) same (given_here s.locks t m (omega arith))

  pub gives_one : (e : Event) (n : List ℕ) → IsTrue (allowed s t e) → gives s e ≡ Some n → suc (count_of (step s t e).1 n) ≡ count_of s n
  gives_one (events.Finish load good) n h names = finish_by_one load good (slice_get s.table.loads load) n refl (fitting s t (events.Finish load good) h refl) names
  gives_one (events.Release m) n h names = spare_by_one m n (fitting s t (events.Release m) h refl) (same_Some m n names)
  gives_one (events.AddLazy spec text) n h names =
      spare_by_one spec.name n (and_parts (has_spare s t spec.name) (has_body spec.kind) (fitting s t (events.AddLazy spec text) h refl)).0 (same_Some spec.name n names)
  gives_one (events.ReloadEnd mid load) n h names = leave_by_one mid load (slice_get s.table.objects mid) n refl (fitting s t (events.ReloadEnd mid load) h refl) names
  gives_one e n h names = absurd (cc names)

pub exactly : (b : Begun) (history : List Entry) → IsLegal (first b) history → (t : ℕ) (event : Event) (n : List ℕ) → IsTrue (allowed (replay (first b) history) t event)
    → ((gives (replay (first b) history) event ≡ Some n) ↔ Falls (replay (first b) history) t event n)
exactly b history legal t event n h =
    let s : State = replay (first b) history in
    (λ names. let one = gives_one s (sound_always b history legal) t event n h names in omega arith, λ falls. falls_gives s t n event falls)

pub by_one : (b : Begun) (history : List Entry) → IsLegal (first b) history → (t : ℕ) (event : Event) (n : List ℕ) → IsTrue (allowed (replay (first b) history) t event)
    → gives (replay (first b) history) event ≡ Some n → suc (count_of (step (replay (first b) history) t event).1 n) ≡ count_of (replay (first b) history) n
by_one b history legal t event n h names = gives_one (replay (first b) history) (sound_always b history legal) t event n h names
