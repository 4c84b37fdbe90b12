-- A module that a thread's pairs show to have the state of a namespace has one.
use Rattle.std.proofs.Common.{◌≡◌, ℕ, Bool, true, false, cond, ◌&&◌, List, [], ◌∷◌, length, codes, Option, Some, None, refl, sym, ap, subst, ◌∙◌, inl, inr}
use Rattle.std.specs.Prelude.{slice_get, nat_eq, is_some}
use Rattle.std.specs.Cmp.Lexicographic.{pointwise}
use Rattle.std.specs.FinMap.{get}
use Rattle.std.proofs.lemmas.Bool.{false≢true, and_parts}
use Rattle.spec_core.specs.declared.spec.Spec.{Spec}
use Rattle.spec_core.specs.declared.spec.SpecKind.{SpecKind}
use Rattle.spec_core.specs.declared.spec.SpecKind.TheVariants as kinds
use Rattle.py_value.specs.declared.value.Value.{Value, roll-Value, out-Value, roll-out-Value}
use Rattle.py_value.specs.declared.value.Value.TheOpen.{Value-F}
use Rattle.py_value.specs.declared.value.NsState.{NsState}
use Rattle.machine_events.specs.declared.event.Event.{Event}
use Rattle.machine_events.specs.declared.event.Event.TheVariants as events
use Rattle.machine_events.specs.declared.event.Reply.TheVariants as replies
use Rattle.module_lock.specs.Table.{closes, is_free}
use Rattle.module_table.specs.Vars.{var_of}
use Rattle.module_table.specs.Start.{start_ns}
use Rattle.module_table.specs.Tables.{with_unit, restarted_object, ns_or}
use Rattle.module_table.specs.Lists.{changed}
use Rattle.module_table.specs.declared.module.Object.{Object}
use Rattle.module_table.specs.declared.module.LoadKind.TheVariants as load_kinds
use Rattle.module_table.specs.declared.module.LoadStage.TheVariants as stages
use Rattle.module_table.specs.declared.module.Phase.TheVariants as phases
use Rattle.machine_spec.specs.declared.state.State.{State}
use Rattle.machine_spec.specs.Waits.{wait_on}
use Rattle.machine_spec.specs.Variables.{sleeping, value_reply, get_reply}
use Rattle.machine_spec.specs.Reloads.{is_entry, reload_start, reload_take}
use Rattle.machine_spec.specs.Step.{step}
use Rattle.machine_spec.specs.Allowed.{allowed, has_ns, is_ns_path, is_reloading, reloads_object, has_name, has_text}
use Rattle.machine_laws.proofs.Lists.{pushed_last, changed_is, set_there}
use Rattle.machine_laws.proofs.Leave.{fitting}
use Rattle.machine_shown.specs.Shown.{is_namespace_path, is_namespace_kind, path_answered, body_answered, namespace_of}
use Rattle.machine_shown.specs.Knowing.{Has}
use Rattle.machine_allows.proofs.Named.{FitsVar, AreNamed, each_found}

same_layer : (x : Value-F Value) → is_namespace_path (roll-Value x) ≡ is_ns_path (roll-Value x)
same_layer Value-F.Nothing = refl
same_layer (Value-F.Bool b) = refl
same_layer (Value-F.Int n) = refl
same_layer (Value-F.Text text) = refl
same_layer (Value-F.List items) = refl
same_layer (Value-F.Tuple items) = refl
same_layer (Value-F.Func load index name) = refl
same_layer (Value-F.Native native) = refl
same_layer (Value-F.Kind kind) = refl
same_layer (Value-F.Module m) = refl
same_layer (Value-F.Error error) = refl
same_layer Value-F.SysModules = refl
same_layer Value-F.SysPath = refl
same_layer Value-F.NsPath = refl

pub same_path : (v : Value) → is_namespace_path v ≡ is_ns_path v
same_path v = subst (λ (z : Value). is_namespace_path z ≡ is_ns_path z) (roll-out-Value v) (same_layer (out-Value v))

only : (a : ℕ) (i : ℕ) → Has (a ∷ []) i → i ≡ a
only a i (inl e) = e
only a i (inr h) = absurd h

has_start : (kind : SpecKind) → is_namespace_kind kind ≡ true → is_some (start_ns kind) ≡ true
has_start kinds.Builtin h = absurd (false≢true h)
has_start (kinds.Source file) h = absurd (false≢true h)
has_start (kinds.Package file path) h = absurd (false≢true h)
has_start (kinds.Namespace path) h = refl

-- where the module has a namespace's state as soon as the body's spec is that of a namespace
began : (kind : SpecKind) (load mid : ℕ) (P : ℕ → Type 0) → (is_namespace_kind kind ≡ true → P mid) → (i : ℕ) → Has (body_answered kind (replies.Load load mid)) i → P i
began kind load mid P h i =
    elim (is_namespace_kind kind) as (λ c. is_namespace_kind kind ≡ c → Has (cond c (mid ∷ []) []) i → P i) [
      | true ↦ λ p has. subst P (sym (only mid i has)) (h p)
      | false ↦ λ p has. absurd has
    ] refl

module _ (s : State) (keeps : AreNamed s.table) (t : ℕ) where
  abbrev Space : ℕ → Type 0
  Space i = has_ns (slice_get s.table.objects i) ≡ true

  read : (mid : ℕ) (o : Object) (x : List ℕ) → slice_get s.table.objects mid ≡ Some o → (v : Option Value) → var_of o.vars x ≡ v → (i : ℕ) → Has (path_answered mid (value_reply o v)) i → Space i
  read mid o x is None at i = λ has. absurd has
  read mid o x is (Some v) at i =
      elim (is_namespace_path v) as (λ c. is_namespace_path v ≡ c → Has (cond c (mid ∷ []) []) i → Space i) [
        | true ↦ λ p has.
            let fits : FitsVar s.table o.ns v = each_found (FitsVar s.table o.ns) o.vars x v (keeps.objects mid o is).vars at in
            subst Space (sym (only mid i has)) (ap has_ns is ∙ fits.1 (sym (same_path v) ∙ p))
        | false ↦ λ p has. absurd has
      ] refl

  gets : (mid : ℕ) (x : List ℕ) (raw : Bool) (o : Option Object) → slice_get s.table.objects mid ≡ o → (i : ℕ) → Has (path_answered mid (get_reply s t x raw o)) i → Space i
  gets mid x raw None is i = λ has. absurd has
  gets mid x raw (Some o) is i =
      elim (sleeping s t raw o) as (λ c. Has (path_answered mid (cond c replies.Sleeping (value_reply o (var_of o.vars x)))) i → Space i) [
        | true ↦ λ has. absurd has
        | false ↦ read mid o x is (var_of o.vars x) refl i
      ]

  got : (mid : ℕ) (x : List ℕ) (raw : Bool) (i : ℕ) → Has (namespace_of (events.GetVar mid x raw) (get_reply s t x raw (slice_get s.table.objects mid))) i → Space i
  got mid x raw i =
      elim (pointwise nat_eq x (codes "__path__")) as (λ c. Has (cond c (path_answered mid (get_reply s t x raw (slice_get s.table.objects mid))) []) i → Space i) [
        | true ↦ gets mid x raw (slice_get s.table.objects mid) refl i
        | false ↦ λ has. absurd has
      ]

  ns_more : (old new : Option NsState) → is_some new ≡ true → is_some (ns_or old new) ≡ true
  ns_more old None h = absurd (false≢true h)
  ns_more old (Some state) h = refl

  again : (mid : ℕ) (spec : Spec) (text : List ℕ) (o : Object) → slice_get s.table.objects mid ≡ Some o → (i : ℕ) → Has (body_answered spec.kind (reload_take s t mid spec text).0) i → has_ns (slice_get (reload_take s t mid spec text).1.table.objects i) ≡ true
  again mid spec text o is i =
      elim (is_free s.locks t spec.name) as (λ c. Has (body_answered spec.kind (cond c (cond (is_entry mid (get s.table.cache spec.name)) (reload_start s t mid spec text) (replies.NotThere, s)) (wait_on s t spec.name replies.Deadlock)).0) i
      → has_ns (slice_get (cond c (cond (is_entry mid (get s.table.cache spec.name)) (reload_start s t mid spec text) (replies.NotThere, s)) (wait_on s t spec.name replies.Deadlock)).1.table.objects i) ≡ true) [
        | true ↦ elim (is_entry mid (get s.table.cache spec.name)) as (λ c. Has (body_answered spec.kind (cond c (reload_start s t mid spec text) (replies.NotThere, s)).0) i → has_ns (slice_get (cond c (reload_start s t mid spec text) (replies.NotThere, s)).1.table.objects i) ≡ true) [
          | true ↦ began spec.kind (length s.table.loads) mid (λ k. has_ns (slice_get (changed (restarted_object spec) s.table.objects mid) k) ≡ true)
              (λ p. ap has_ns (ap (λ os. slice_get os mid) (changed_is (restarted_object spec) s.table.objects mid o is) ∙ set_there s.table.objects mid o (restarted_object spec o) is) ∙ ns_more o.ns (start_ns spec.kind) (has_start spec.kind p)) i
          | false ↦ λ has. absurd has
        ]
        | false ↦ elim (closes s.locks t spec.name) as (λ c. Has (body_answered spec.kind (cond c replies.Deadlock (replies.Wait spec.name))) i → has_ns (slice_get s.table.objects i) ≡ true) [ true ↦ λ has. absurd has | false ↦ λ has. absurd has ]
      ]

  there : (mid : ℕ) (o : Option Object) → slice_get s.table.objects mid ≡ o → reloads_object s t mid None o ≡ true → (x : Object) × (slice_get s.table.objects mid ≡ Some x)
  there mid None is h = absurd (false≢true h)
  there mid (Some o) is h = (o, is)

pub spaces_step : (s : State) → AreNamed s.table → (t : ℕ) (e : Event) → allowed s t e ≡ true → (i : ℕ) → Has (namespace_of e (step s t e).0) i → has_ns (slice_get (step s t e).1.table.objects i) ≡ true
spaces_step s keeps t (events.GetVar mid x raw) h i has = got s keeps t mid x raw i has
spaces_step s keeps t (events.Add spec text) h i has =
    began spec.kind (length s.table.loads) (length s.table.objects) (λ k. has_ns (slice_get (with_unit s.table spec phases.Initialising load_kinds.Plain t text stages.Open).objects k) ≡ true)
    (λ p. ap has_ns (pushed_last s.table.objects _) ∙ has_start spec.kind p) i has
spaces_step s keeps t (events.ReloadTake mid spec text) h i has =
    let fits = fitting s t (events.ReloadTake mid spec text) h refl in
    let parts = and_parts (is_reloading s t mid None && has_name (slice_get s.table.objects mid) spec.name) (has_text spec.kind text) fits in
    let front = and_parts (is_reloading s t mid None) (has_name (slice_get s.table.objects mid) spec.name) parts.0 in
    let o = there s keeps t mid (slice_get s.table.objects mid) refl front.0 in
    again s keeps t mid spec text o.0 o.1 i has
spaces_step s keeps t (events.Ask n) h i has = absurd has
spaces_step s keeps t (events.Take n) h i has = absurd has
spaces_step s keeps t events.Wake h i has = absurd has
spaces_step s keeps t (events.Finish load good) h i has = absurd has
spaces_step s keeps t (events.Release n) h i has = absurd has
spaces_step s keeps t (events.SetVar raw mid x v) h i has = absurd has
spaces_step s keeps t (events.DelVar mid x raw) h i has = absurd has
spaces_step s keeps t (events.Names mid) h i has = absurd has
spaces_step s keeps t (events.Source load) h i has = absurd has
spaces_step s keeps t (events.Print text) h i has = absurd has
spaces_step s keeps t events.PathGet h i has = absurd has
spaces_step s keeps t (events.PathAdd at v) h i has = absurd has
spaces_step s keeps t (events.DirGet dir part) h i has = absurd has
spaces_step s keeps t (events.DirSet dir listing) h i has = absurd has
spaces_step s keeps t events.Invalidate h i has = absurd has
spaces_step s keeps t (events.NsGet mid) h i has = absurd has
spaces_step s keeps t (events.NsSet mid state) h i has = absurd has
spaces_step s keeps t (events.TabGet n) h i has = absurd has
spaces_step s keeps t (events.TabSet n slot) h i has = absurd has
spaces_step s keeps t (events.TabDel n) h i has = absurd has
spaces_step s keeps t (events.ReloadBegin mid raw) h i has = absurd has
spaces_step s keeps t (events.ReloadEnd mid load) h i has = absurd has
spaces_step s keeps t (events.AddLazy spec text) h i has = absurd has
spaces_step s keeps t (events.Rouse mid) h i has = absurd has
spaces_step s keeps t (events.Main spec text) h i has = absurd has
spaces_step s keeps t (events.End outcome spent) h i has = absurd has
