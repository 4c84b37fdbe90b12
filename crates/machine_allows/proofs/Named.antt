-- Each value and each cache entry of a table names modules of the table, and a
-- namespace's path stands only in a module that has the state of a namespace.
use Rattle.std.proofs.Common.{◌≡◌, ◌⊎◌, ℕ, Bool, true, false, cond, ◌&&◌, List, [], ◌∷◌, map, codes, Option, Some, None, refl, sym, ap, subst, ◌∙◌, inl, inr}
use Rattle.std.specs.Prelude.{slice_get, nat_eq, is_some}
use Rattle.std.specs.List.{list_all}
use Rattle.std.specs.Cmp.Lexicographic.{pointwise}
use Rattle.std.specs.FinMap.{get}
use Rattle.std.proofs.lemmas.Bool.{false≢true}
use Rattle.spec_core.specs.Packages.{package_of}
use Rattle.spec_core.specs.declared.spec.Spec.{Spec}
use Rattle.spec_core.specs.declared.spec.SpecKind.{SpecKind}
use Rattle.spec_core.specs.declared.spec.SpecKind.TheVariants as kinds
use Rattle.py_value.specs.declared.value.ModRef.{ModRef}
use Rattle.py_value.specs.declared.value.NsState.{NsState}
use Rattle.py_value.specs.declared.value.Value.{Value}
use Rattle.py_value.specs.declared.value.Value.TheVariants as values
use Rattle.py_value.specs.declared.value.Value.TheVariants.{rolls-Text, rolls-List, rolls-Nothing, rolls-NsPath, rolls-Module, rolls-SysModules, rolls-SysPath, rolls-Native}
use Rattle.py_value.specs.declared.value.Value.TheOpen.{Value-F}
use Rattle.py_value.specs.declared.value.Value.TheFolds.{fold-roll-Value}
use Rattle.py_value.specs.declared.kind.Native.{Native}
use Rattle.machine_events.specs.declared.module.Slot.{Slot}
use Rattle.machine_events.specs.declared.module.Slot.TheVariants as slots
use Rattle.module_table.specs.Vars.{var_of, with_var, without_var}
use Rattle.module_table.specs.Start.{kind_vars, restarted, start_ns}
use Rattle.module_table.specs.Tables.{ns_or, with_file, main_vars}
use Rattle.module_table.specs.Lists.{changed, changed_to}
use Rattle.module_table.specs.declared.module.Object.{Object}
use Rattle.module_table.specs.declared.table.Table.{Table}
use Rattle.machine_spec.specs.Parts.{value_of}
use Rattle.machine_spec.specs.Known.{is_module, names_modules, names_modules_at, slot_names_module}
use Rattle.machine_spec.specs.Allowed.{is_ns_path}
use Rattle.machine_laws.proofs.Lists.{set_at}
use Rattle.machine_allows.proofs.Grow.{Grow, More, names_grow, items_grow, there_grow}

-- a value of a module with or without a namespace state
abbrev pub FitsVar : Table → Option NsState → Value → Type 0
FitsVar table ns v = (names_modules table v ≡ true) × (is_ns_path v ≡ true → is_some ns ≡ true)

abbrev pub EachVar : (Value → Type 0) → List (List ℕ × Value) → Type 0
EachVar P [] = Unit {0}
EachVar P (e ∷ es) = P e.1 × EachVar P es

abbrev pub FitsState : Table → Option NsState → Type 0
FitsState table None = Unit {0}
FitsState table (Some state) = list_all (names_modules table) state.parent_path ≡ true

pub record HasNames (table : Table) (o : Object) : Type 0 where
  pub vars : EachVar (FitsVar table o.ns) o.vars
  pub state : FitsState table o.ns

pub record AreNamed (table : Table) : Type 0 where
  pub cache : (n : List ℕ) (m : ModRef) → get table.cache n ≡ Some (slots.Module m) → is_module table m ≡ true
  pub path : list_all (names_modules table) table.path ≡ true
  pub objects : (i : ℕ) (o : Object) → slice_get table.objects i ≡ Some o → HasNames table o

-- Lists of variables.

module _ (P : Value → Type 0) where
  pub each_set : (vars : List (List ℕ × Value)) (n : List ℕ) (v : Value) → EachVar P vars → P v → EachVar P (with_var vars n v)
  each_set [] n v each new = (new, tt)
  each_set (e ∷ es) n v each new = elim (pointwise nat_eq n e.0) as (λ c. EachVar P (cond c ((e.0, v) ∷ es) (e ∷ with_var es n v))) [ true ↦ (new, each.1) | false ↦ (each.0, each_set es n v each.1 new) ]

  pub each_deleted : (vars : List (List ℕ × Value)) (n : List ℕ) → EachVar P vars → EachVar P (without_var vars n)
  each_deleted [] n each = tt
  each_deleted (e ∷ es) n each = elim (pointwise nat_eq n e.0) as (λ c. EachVar P (cond c es (e ∷ without_var es n))) [ true ↦ each.1 | false ↦ (each.0, each_deleted es n each.1) ]

  pub each_found : (vars : List (List ℕ × Value)) (n : List ℕ) (v : Value) → EachVar P vars → var_of vars n ≡ Some v → P v
  each_found [] n v each is = cc
  each_found (e ∷ es) n v each is =
      elim (pointwise nat_eq n e.0) as (λ c. cond c (Some e.1) (var_of es n) ≡ Some v → P v) [
        | true ↦ λ h. subst P (let same : e.1 ≡ v = cc in same) each.0
        | false ↦ λ h. each_found es n v each.1 h
      ] is

pub each_more : (P Q : Value → Type 0) (vars : List (List ℕ × Value)) → ((v : Value) → P v → Q v) → EachVar P vars → EachVar Q vars
each_more P Q [] h each = tt
each_more P Q (e ∷ es) h each = (h e.1 each.0, each_more P Q es h each.1)

-- Values without modules.

module _ (table : Table) where
  pub text_named : (text : List ℕ) → names_modules table (values.Text text) ≡ true
  text_named text = ap (names_modules table) (sym (rolls-Text text)) ∙ fold-roll-Value Bool (names_modules_at table) (Value-F.Text text)

  pub nothing_named : names_modules table values.Nothing ≡ true
  nothing_named = ap (names_modules table) (sym rolls-Nothing) ∙ fold-roll-Value Bool (names_modules_at table) Value-F.Nothing

  pub ns_path_named : names_modules table values.NsPath ≡ true
  ns_path_named = ap (names_modules table) (sym rolls-NsPath) ∙ fold-roll-Value Bool (names_modules_at table) Value-F.NsPath

  pub sys_modules_named : names_modules table values.SysModules ≡ true
  sys_modules_named = ap (names_modules table) (sym rolls-SysModules) ∙ fold-roll-Value Bool (names_modules_at table) Value-F.SysModules

  pub sys_path_named : names_modules table values.SysPath ≡ true
  sys_path_named = ap (names_modules table) (sym rolls-SysPath) ∙ fold-roll-Value Bool (names_modules_at table) Value-F.SysPath

  pub native_named : (n : Native) → names_modules table (values.Native n) ≡ true
  native_named n = ap (names_modules table) (sym (rolls-Native n)) ∙ fold-roll-Value Bool (names_modules_at table) (Value-F.Native n)

  texts_named : (texts : List (List ℕ)) → list_all (λ b. b) (map (names_modules table) (map (λ text. values.Text text) texts)) ≡ true
  texts_named [] = refl
  texts_named (text ∷ texts) = ap (λ b. b && list_all (λ b. b) (map (names_modules table) (map (λ text. values.Text text) texts))) (text_named text) ∙ texts_named texts

  pub path_named : (texts : List (List ℕ)) → names_modules table (values.List (map (λ text. values.Text text) texts)) ≡ true
  path_named texts =
      ap (names_modules table) (sym (rolls-List (map (λ text. values.Text text) texts)))
      ∙ fold-roll-Value Bool (names_modules_at table) (Value-F.List (map (λ text. values.Text text) texts))
      ∙ texts_named texts

  pub texts_all : (texts : List (List ℕ)) → list_all (names_modules table) (map (λ text. values.Text text) texts) ≡ true
  texts_all [] = refl
  texts_all (text ∷ texts) = ap (λ b. b && list_all (names_modules table) (map (λ text. values.Text text) texts)) (text_named text) ∙ texts_all texts

  module_named : (m : ModRef) → is_module table m ≡ true → names_modules table (values.Module m) ≡ true
  module_named m h = ap (names_modules table) (sym (rolls-Module m)) ∙ fold-roll-Value Bool (names_modules_at table) (Value-F.Module m) ∙ h

  module _ (ns : Option NsState) where
    pub text_fits : (text : List ℕ) → FitsVar table ns (values.Text text)
    text_fits text = (text_named text, λ h. absurd (false≢true h))

    pub nothing_fits : FitsVar table ns values.Nothing
    nothing_fits = (nothing_named, λ h. absurd (false≢true h))

    path_fits : (texts : List (List ℕ)) → FitsVar table ns (values.List (map (λ text. values.Text text) texts))
    path_fits texts = (path_named texts, λ h. absurd (false≢true h))

    -- an entry of the cache, as a value
    pub slot_fits : (slot : Slot) → slot_names_module table slot ≡ true → FitsVar table ns (value_of slot)
    slot_fits slots.Absent h = nothing_fits
    slot_fits slots.Halted h = nothing_fits
    slot_fits (slots.Module m) h = (module_named m h, λ h. absurd (false≢true h))

  -- the start variables, where a namespace has its state
  kind_fits : (ns : Option NsState) (kind : SpecKind) (vars : List (List ℕ × Value)) → EachVar (FitsVar table (ns_or ns (start_ns kind))) vars → EachVar (FitsVar table (ns_or ns (start_ns kind))) (kind_vars kind vars)
  kind_fits ns kinds.Builtin vars each = each
  kind_fits ns (kinds.Source file) vars each = each_set (FitsVar table ns) vars (codes "__file__") (values.Text file) each (text_fits ns file)
  kind_fits ns (kinds.Package file path) vars each =
      each_set (FitsVar table ns) (with_var vars (codes "__path__") (values.List (map (λ text. values.Text text) path))) (codes "__file__") (values.Text file)
      (each_set (FitsVar table ns) vars (codes "__path__") (values.List (map (λ text. values.Text text) path)) each (path_fits ns path))
      (text_fits ns file)
  kind_fits ns (kinds.Namespace path) vars each =
      let now : Option NsState = ns_or ns (start_ns (kinds.Namespace path)) in
      each_set (FitsVar table now) (with_var vars (codes "__path__") values.NsPath) (codes "__file__") values.Nothing
      (each_set (FitsVar table now) vars (codes "__path__") values.NsPath each (ns_path_named, λ h. refl))
      (nothing_fits now)

  ns_more : (old new : Option NsState) → is_some old ≡ true → is_some (ns_or old new) ≡ true
  ns_more old None h = h
  ns_more old (Some state) h = refl

  pub restarted_fits : (ns : Option NsState) (spec : Spec) (vars : List (List ℕ × Value)) → EachVar (FitsVar table ns) vars → EachVar (FitsVar table (ns_or ns (start_ns spec.kind))) (restarted spec vars)
  restarted_fits ns spec vars each =
      let now : Option NsState = ns_or ns (start_ns spec.kind) in
      let first : EachVar (FitsVar table now) vars = each_more (FitsVar table ns) (FitsVar table now) vars (λ v h. (h.0, λ p. ns_more ns (start_ns spec.kind) (h.1 p))) each in
      kind_fits ns spec.kind _
      (each_set (FitsVar table now) (with_var vars (codes "__name__") (values.Text spec.name)) (codes "__package__") (values.Text (package_of spec.name spec.kind))
      (each_set (FitsVar table now) vars (codes "__name__") (values.Text spec.name) first (text_fits now spec.name))
      (text_fits now (package_of spec.name spec.kind)))

  state_fits : (ns : Option NsState) (kind : SpecKind) → FitsState table ns → FitsState table (ns_or ns (start_ns kind))
  state_fits ns kinds.Builtin h = h
  state_fits ns (kinds.Source file) h = h
  state_fits ns (kinds.Package file path) h = h
  state_fits ns (kinds.Namespace path) h = refl

  pub restarted_named : (spec : Spec) (o : Object) → HasNames table o → HasNames table (record o { vars = restarted spec o.vars; ns = ns_or o.ns (start_ns spec.kind) })
  restarted_named spec o named = record { vars = restarted_fits o.ns spec o.vars named.vars; state = state_fits o.ns spec.kind named.state }

  file_fits : (ns : Option NsState) (kind : SpecKind) (vars : List (List ℕ × Value)) → EachVar (FitsVar table ns) vars → EachVar (FitsVar table ns) (with_file kind vars)
  file_fits ns kinds.Builtin vars each = each
  file_fits ns (kinds.Source file) vars each = each_set (FitsVar table ns) vars (codes "__file__") (values.Text file) each (text_fits ns file)
  file_fits ns (kinds.Package file path) vars each = each_set (FitsVar table ns) vars (codes "__file__") (values.Text file) each (text_fits ns file)
  file_fits ns (kinds.Namespace path) vars each = each

  pub main_fits : (ns : Option NsState) (spec : Spec) (vars : List (List ℕ × Value)) → EachVar (FitsVar table ns) vars → EachVar (FitsVar table ns) (main_vars spec vars)
  main_fits ns spec vars each =
      file_fits ns spec.kind _ (each_set (FitsVar table ns) vars (codes "__package__") (values.Text (package_of spec.name spec.kind)) each (text_fits ns (package_of spec.name spec.kind)))

-- Modules of a table that has grown.

state_grow : (a b : Table) → Grow a.objects b.objects → More a b → (ns : Option NsState) → FitsState a ns → FitsState b ns
state_grow a b g more None h = tt
state_grow a b g more (Some state) h = items_grow a b g more state.parent_path h

pub has_grow : (a b : Table) → Grow a.objects b.objects → More a b → (o : Object) → HasNames a o → HasNames b o
has_grow a b g more o named = record {
  vars = each_more (FitsVar a o.ns) (FitsVar b o.ns) o.vars (λ v h. (names_grow a b g more v h.0, h.1)) named.vars;
  state = state_grow a b g more o.ns named.state;
}

-- a table that has grown is named where its new entries, its new path and its new modules are
pub named_grown : (a b : Table) → AreNamed a → Grow a.objects b.objects → More a b
    → ((n : List ℕ) (m : ModRef) → get b.cache n ≡ Some (slots.Module m) → (get a.cache n ≡ Some (slots.Module m)) ⊎ (is_module b m ≡ true))
    → (b.path ≡ a.path) ⊎ (list_all (names_modules b) b.path ≡ true)
    → ((i : ℕ) (o : Object) → slice_get b.objects i ≡ Some o → (slice_get a.objects i ≡ Some o) ⊎ HasNames b o)
    → AreNamed b
named_grown a b named g more cache path objects = record {
  cache = λ n m is. elim (cache n m is) [ inl old ↦ there_grow a b g m (named.cache n m old) | inr new ↦ new ];
  path = elim path [ inl same ↦ ap (list_all (names_modules b)) same ∙ items_grow a b g more a.path named.path | inr new ↦ new ];
  objects = λ i o is. elim (objects i o is) [ inl old ↦ has_grow a b g more o (named.objects i o old) | inr new ↦ new ];
}

-- a changed module
pub changed_at : (f : Object → Object) (os : List Object) (i j : ℕ) (o : Object) → slice_get (changed f os i) j ≡ Some o → (slice_get os j ≡ Some o) ⊎ ((x : Object) × (slice_get os j ≡ Some x) × (o ≡ f x))
changed_at f os i j o is = by (slice_get os i) refl is
  where
    by : (x : Option Object) → slice_get os i ≡ x → slice_get (changed_to f os i x) j ≡ Some o → (slice_get os j ≡ Some o) ⊎ ((x : Object) × (slice_get os j ≡ Some x) × (o ≡ f x))
    by None at h = inl h
    by (Some x) at h = elim (set_at os i j (f x) o h) [ inl here ↦ inr (x, ap (slice_get os) here.0 ∙ at, here.1) | inr there ↦ inl there.1 ]
