-- Modules are never taken away, and keep their names, places and namespace states.
use Rattle.std.proofs.Common.{◌≡◌, ◌<◌, ℕ, zero, suc, true, false, ◌&&◌, List, [], ◌∷◌, ◌++◌, length, Option, Some, None, refl, sym, ap, ◌∙◌, arith, eqb}
use Rattle.std.specs.Prelude.{slice_get, slice_set, nat_eq, nat_lt, is_some}
use Rattle.std.specs.List.{list_all}
use Rattle.std.specs.Cmp.Lexicographic.{pointwise}
use Rattle.std.proofs.lemmas.Bool.{false≢true, and_parts, and_from, eqb-true, eqb-false, ltb-true, lt-ltb}
use Rattle.py_value.specs.declared.value.ModRef.{ModRef}
use Rattle.py_value.specs.declared.value.Value.{Value}
use Rattle.spec_core.specs.declared.spec.Spec.{Spec}
use Rattle.module_table.specs.Lists.{changed, changed_to}
use Rattle.module_table.specs.declared.module.Object.{Object}
use Rattle.module_table.specs.declared.table.Table.{Table}
use Rattle.machine_spec.specs.Known.{is_module, is_module_of, is_place_of, names_modules}
use Rattle.machine_spec.specs.Allowed.{has_ns}
use Rattle.machine_laws.proofs.Lists.{pushed_keeps, set_there, set_elsewhere, within}
use Rattle.machine_shown.specs.Shown.{modules_in, loads_in}
use Rattle.machine_allows.proofs.Values.{all_there, all_made, names_are, all_more}

-- after a module stands another under its number, of the same spec, which has a namespace state where the first had one
abbrev pub Stays : Object → Object → Type 0
Stays o p = (p.spec ≡ o.spec) × (is_some o.ns ≡ true → is_some p.ns ≡ true)

pub record Grow (a b : List Object) : Type 0 where
  pub kept : (i : ℕ) (o : Object) → slice_get a i ≡ Some o → (p : Object) × (slice_get b i ≡ Some p) × Stays o p

pub grow_same : (a : List Object) → Grow a a
grow_same a = record { kept = λ i o is. (o, is, (refl, λ h. h)) }

pub grow_pushed : (a : List Object) (o : Object) → Grow a (a ++ o ∷ [])
grow_pushed a o = record { kept = λ i x is. (x, pushed_keeps a o i x is, (refl, λ h. h)) }

pub grow_then : (a b c : List Object) → Grow a b → Grow b c → Grow a c
grow_then a b c f g = record {
  kept = λ i o is.
      let x = f.kept i o is in
      let y = g.kept i x.0 x.1 in
      (y.0, y.1, (y.2.0 ∙ x.2.0, λ h. y.2.1 (x.2.1 h)));
}

pub grow_changed : (f : Object → Object) → ((o : Object) → Stays o (f o)) → (a : List Object) (i : ℕ) → Grow a (changed f a i)
grow_changed f same a i = by (slice_get a i) refl
  where
    at_set : (x : Object) → slice_get a i ≡ Some x → (j : ℕ) (o : Object) → slice_get a j ≡ Some o → (p : Object) × (slice_get (slice_set a i (f x)) j ≡ Some p) × Stays o p
    at_set x is j o at =
        elim (eqb j i) as (λ c. eqb j i ≡ c → (p : Object) × (slice_get (slice_set a i (f x)) j ≡ Some p) × Stays o p) [
          | true ↦ λ e.
              let here : j ≡ i = eqb-true j i e in
              let one : x ≡ o = let g : Some x ≡ Some o = sym is ∙ ap (slice_get a) (sym here) ∙ at in cc in
              (f o, ap (slice_get (slice_set a i (f x))) here ∙ set_there a i x (f x) is ∙ ap (λ z. Some (f z)) one, same o)
          | false ↦ λ e. (o, set_elsewhere a i j (f x) (eqb-false j i e) ∙ at, (refl, λ h. h))
        ] refl

    by : (x : Option Object) → slice_get a i ≡ x → Grow a (changed_to f a i x)
    by None is = grow_same a
    by (Some x) is = record { kept = at_set x is }

-- no load is taken away
abbrev pub More : Table → Table → Type 0
More a b = (i : ℕ) → i < length a.loads → i < length b.loads

-- an item below the length is there
pub at_some : {X : Type 0} (xs : List X) (i : ℕ) → i < length xs → (x : X) × (slice_get xs i ≡ Some x)
at_some [] i less = absurd (omega arith)
at_some (x ∷ xs) zero less = (x, refl)
at_some (x ∷ xs) (suc i) less = at_some xs i (omega arith)

pub longer : (a b : List Object) → Grow a b → (i : ℕ) → i < length a → i < length b
longer a b g i less =
    let o = at_some a i less in
    let k = g.kept i o.0 o.1 in
    within b i k.0 k.1

module _ (a b : Table) (g : Grow a.objects b.objects) where
  pub there_grow : (m : ModRef) → is_module a m ≡ true → is_module b m ≡ true
  there_grow m h = by (slice_get a.objects m.mid) refl h
    where
      by : (o : Option Object) → slice_get a.objects m.mid ≡ o → is_module_of m o ≡ true → is_module b m ≡ true
      by None is h = absurd (false≢true h)
      by (Some o) is h =
          let k = g.kept m.mid o is in
          ap (is_module_of m) k.1 ∙ ap (λ (z : Spec). pointwise nat_eq z.name m.name && is_place_of z.kind m.place) k.2.0 ∙ h

  pub all_grow : (ms : List ModRef) → all_there a ms ≡ true → all_there b ms ≡ true
  all_grow ms h = all_more (is_module a) (is_module b) ms there_grow h

  pub made_grow : More a b → (ls : List ℕ) → all_made a ls ≡ true → all_made b ls ≡ true
  made_grow more ls h =
      all_more (λ l. nat_lt l (length a.loads)) (λ l. nat_lt l (length b.loads)) ls
      (λ l less. lt-ltb l (length b.loads) (more l (ltb-true l (length a.loads) less))) h

  pub names_grow : More a b → (v : Value) → names_modules a v ≡ true → names_modules b v ≡ true
  names_grow more v h =
      let parts = and_parts (all_there a (modules_in v)) (all_made a (loads_in v)) (sym (names_are a v) ∙ h) in
      names_are b v ∙ and_from (all_there b (modules_in v)) (all_made b (loads_in v)) (all_grow (modules_in v) parts.0) (made_grow more (loads_in v) parts.1)

  pub items_grow : More a b → (items : List Value) → list_all (names_modules a) items ≡ true → list_all (names_modules b) items ≡ true
  items_grow more items h = all_more (names_modules a) (names_modules b) items (names_grow more) h

  pub ns_grow : (i : ℕ) → has_ns (slice_get a.objects i) ≡ true → has_ns (slice_get b.objects i) ≡ true
  ns_grow i h = by (slice_get a.objects i) refl h
    where
      by : (o : Option Object) → slice_get a.objects i ≡ o → has_ns o ≡ true → has_ns (slice_get b.objects i) ≡ true
      by None is h = absurd (false≢true h)
      by (Some o) is h = let k = g.kept i o is in ap has_ns k.1 ∙ k.2.1 h
