-- At the opening no thread holds anything, and each value names modules that are there.
use Rattle.std.proofs.Common.{◌≡◌, ◌⊎◌, ℕ, zero, suc, ◌+◌, arith, true, false, cond, List, [], ◌∷◌, map, length, codes, Option, Some, None, refl, sym, ap, subst, ◌∙◌, inl, inr}
use Rattle.std.specs.Prelude.{slice_get, is_none, is_some}
use Rattle.std.specs.Ordering.{nat_cmp}
use Rattle.std.specs.Cmp.Lexicographic.{slice_cmp, nat_list_cmp_total}
use Rattle.std.specs.FinMap.{get, get-empty, get-insert}
use Rattle.std.proofs.lemmas.Bool.{false≢true}
use Rattle.py_value.specs.declared.value.Value.TheVariants as values
use Rattle.py_value.specs.declared.kind.Native.TheVariants as natives
use Rattle.machine_events.specs.Modules.{module_of}
use Rattle.machine_events.specs.declared.module.Slot.{Slot}
use Rattle.machine_events.specs.declared.module.Slot.TheVariants as slots
use Rattle.module_table.specs.Tables.{new_table}
use Rattle.module_table.specs.declared.module.Object.{Object}
use Rattle.module_table.specs.declared.module.Load.{Load}
use Rattle.module_table.specs.declared.module.LoadKind.TheVariants as load_kinds
use Rattle.module_table.specs.declared.module.Reload.{Reload}
use Rattle.module_table.specs.declared.table.Table.{Table}
use Rattle.machine_spec.specs.Parts.{is_imported}
use Rattle.machine_spec.specs.Known.{slot_names_module}
use Rattle.machine_spec.specs.Allowed.{is_reload}
use Rattle.machine_spec.specs.Opening.{opening, script_object, script_objects, script_load, script_loads, sys_module, importlib_module, pyimport_module, with_cached, with_scripts}
use Rattle.machine_laws.specs.Bones.{Module, Body, bones, body_bone, held, held_by}
use Rattle.machine_laws.proofs.Counts.{bit}
use Rattle.machine_laws.specs.Begun.{Begun, first}
use Rattle.machine_laws.proofs.Holds.{same_text}
use Rattle.machine_laws.proofs.Lists.{pushed_at, pushed_last}
use Rattle.machine_laws.proofs.Same.{unmap}
use Rattle.machine_laws.proofs.Always.{sound_first}
use Rattle.machine_shown.specs.Shown.{Running}
use Rattle.machine_allows.proofs.Grow.{grow_pushed}
use Rattle.machine_allows.proofs.Named.{HasNames, AreNamed, text_fits, nothing_fits, sys_modules_named, sys_path_named, native_named, texts_all, named_grown}
use Rattle.machine_allows.proofs.Fine.{object_there}
use Rattle.machine_allows.proofs.Agreeing.{Agrees, Backed, opened_by, reloads_by, opened_reload}

loads_kind : (k : ℕ) (texts : List (List ℕ)) (i : ℕ) (l : Load) → slice_get (script_loads k texts) i ≡ Some l → l.kind ≡ load_kinds.Main
loads_kind k [] i l is = cc
loads_kind k (text ∷ texts) zero l is = let f : l ≡ script_load k text = cc in ap (λ (z : Load). z.kind) f
loads_kind k (text ∷ texts) (suc i) l is = loads_kind (k + 1) texts i l is

pub loads_length : (k : ℕ) (texts : List (List ℕ)) → length (script_loads k texts) ≡ length texts
loads_length k [] = refl
loads_length k (text ∷ texts) = ap (λ n. suc n) (loads_length (k + 1) texts)

pub objects_length : (k : ℕ) (scripts : List (List ℕ)) → length (script_objects k scripts) ≡ length scripts
objects_length k [] = refl
objects_length k (script ∷ scripts) = ap (λ n. suc n) (objects_length (k + 1) scripts)

objects_at : (k : ℕ) (scripts : List (List ℕ)) (i : ℕ) (o : Object) → slice_get (script_objects k scripts) i ≡ Some o → (j : ℕ) × (script : List ℕ) × (o ≡ script_object j script)
objects_at k [] i o is = cc
objects_at k (script ∷ scripts) zero o is = (k, script, let f : o ≡ script_object k script = cc in f)
objects_at k (script ∷ scripts) (suc i) o is = objects_at (k + 1) scripts i o is

module _ (b : Begun) where
  main_kind : (i : ℕ) (l : Body) → slice_get (bones (first b)).bodies i ≡ Some l → l.kind ≡ load_kinds.Main
  main_kind i l is =
      let at = unmap body_bone (script_loads 0 b.texts) i l is in
      sym (ap (λ (z : Body). z.kind) at.2) ∙ loads_kind 0 b.texts i at.0 at.1

  pub backed_first : Backed (bones (first b))
  backed_first = record {
    counts = λ n lock is. let e = sym (get-empty (slice_cmp nat_cmp) n) ∙ is in cc;
    again = λ i l is opened kind. let e : load_kinds.Main ≡ load_kinds.Reload = sym (main_kind i l is) ∙ kind in absurd (let z : ⊥ = cc in z);
  }

  none_opened : (t i : ℕ) → (o : Option Body) → slice_get (bones (first b)).bodies i ≡ o → opened_by t o ≡ false
  none_opened t i None is = refl
  none_opened t i (Some l) is = opened_reload t l (ap is_imported (main_kind i l is))

  none_reloads : (t mid : ℕ) (load : Option ℕ) (o : Option Module) → reloads_by (bones (first b)).reloads t mid load o ≡ false
  none_reloads t mid load None = refl
  none_reloads t mid load (Some m) = ap (is_reload t mid load) (get-empty (slice_cmp nat_cmp) m.name)

  pub agrees_first : (t : ℕ) → Agrees (bones (first b)) t [] Running
  agrees_first t = record {
    takes = λ n.
        let most = (sound_first b).covered t n in
        let none : held (bones (first b)).locks t n ≡ 0 = ap (held_by t) (get-empty (slice_cmp nat_cmp) n) in
        omega arith;
    bodies = λ i. sym (ap bit (none_opened t i (slice_get (bones (first b)).bodies i) refl));
    reloads = λ mid load. sym (ap bit (none_reloads t mid load (slice_get (bones (first b)).modules mid)));
    waits = ap is_none (get-empty nat_cmp t);
    over = ap is_some (get-empty nat_cmp t);
  }

script_named : (table : Table) (k : ℕ) (script : List ℕ) → HasNames table (script_object k script)
script_named table k script = record { vars = (text_fits table None (codes "__main__"), (nothing_fits table None, (text_fits table None script, tt))); state = tt }

sys_named : (table : Table) → HasNames table sys_module
sys_named table = record { vars = (text_fits table None (codes "sys"), ((sys_modules_named table, λ h. absurd (false≢true h)), ((sys_path_named table, λ h. absurd (false≢true h)), tt))); state = tt }

importlib_named : (table : Table) → HasNames table importlib_module
importlib_named table = record {
  vars = (text_fits table None (codes "importlib"), ((native_named table natives.InvalidateCaches, λ h. absurd (false≢true h)), ((native_named table natives.Reload, λ h. absurd (false≢true h)), tt)));
  state = tt;
}

pyimport_named : (table : Table) → HasNames table pyimport_module
pyimport_named table = record { vars = (text_fits table None (codes "pyimport"), ((native_named table natives.Lazy, λ h. absurd (false≢true h)), tt)); state = tt }

cached_named : (table : Table) → AreNamed table → (object : Object) → HasNames (with_cached table object) object → AreNamed (with_cached table object)
cached_named table keeps object has =
    let after : Table = with_cached table object in
    let new : Slot = slots.Module (module_of object.spec (length table.objects)) in
    named_grown table after keeps (grow_pushed table.objects object) (λ i less. less)
    (λ n m is.
    elim (same_text n object.spec.name) as (λ c. cond c (Some new) (get table.cache n) ≡ Some (slots.Module m) → (get table.cache n ≡ Some (slots.Module m)) ⊎ (slot_names_module after (slots.Module m) ≡ true)) [
      | true ↦ λ e. inr (let same : new ≡ slots.Module m = cc in sym (ap (slot_names_module after) same) ∙ object_there after (length table.objects) object (pushed_last table.objects object))
      | false ↦ λ e. inl e
    ] (sym (get-insert nat_list_cmp_total table.cache object.spec.name new n) ∙ is))
    (inl refl)
    (λ i o is. elim (pushed_at table.objects object i o is) [ inl old ↦ inl old | inr last ↦ inr (subst (HasNames after) (sym last.1) has) ])

pub named_first : (b : Begun) → AreNamed (first b).table
named_first b =
    let base : Table = with_scripts b.scripts b.texts (new_table (map (λ text. values.Text text) b.path)) in
    let zeroth : AreNamed base = record {
      cache = λ n m is. let e = sym (get-empty (slice_cmp nat_cmp) n) ∙ is in cc;
      path = texts_all base b.path;
      objects = λ i o is. let at = objects_at 0 b.scripts i o is in subst (HasNames base) (sym at.2) (script_named base at.0 at.1);
    } in
    let one : Table = with_cached base sys_module in
    let two : Table = with_cached one importlib_module in
    cached_named two (cached_named one (cached_named base zeroth sys_module (sys_named one)) importlib_module (importlib_named two)) pyimport_module (pyimport_named (with_cached two pyimport_module))
