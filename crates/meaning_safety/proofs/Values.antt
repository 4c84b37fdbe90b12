-- What is known of values that are given.
use Rattle.std.proofs.Common.{◌≡◌, ℕ, Bool, true, false, if◌then◌else◌, List, [], ◌∷◌, flat_map, refl, subst}
use Rattle.std.specs.List.{list_any}
use Rattle.py_value.specs.declared.value.ModRef.{ModRef}
use Rattle.py_value.specs.declared.value.Value.{Value, out-Value}
use Rattle.py_value.specs.declared.value.Value.TheOpen.{Value-F}
use Rattle.py_value.specs.declared.value.Value.TheVariants as values
use Rattle.py_value.specs.declared.operator.Applied.{Applied}
use Rattle.py_value.specs.declared.operator.Applied.TheVariants as applied
use Rattle.value_operators.specs.Outcomes.{is_special, limited, not_in_profile}
use Rattle.machine_shown.specs.Shown.{Shown, modules_in, loads_in}
use Rattle.machine_shown.specs.Knowing.{Has, KnowsAll, KnowsItems}
use Rattle.meaning_safety.specs.Laws.{KnowsApplied}
use Rattle.meaning_safety.proofs.Parts.{KnowsLayer, plain, displays, has_both, known_open}
use Rattle.meaning_safety.proofs.Operators.{operators}
use Rattle.meaning_state.specs.declared.flow.Flow.TheVariants.{Went}
use Rattle.meaning_script.specs.Pieces.{gives, flow_of}
use Rattle.meaning_script.specs.Operators.{displayed}
use Rattle.meaning_safety.specs.Known.{KnowsValue}
use Rattle.meaning_safety.proofs.Pieces.{SafeAt, Each, goes_safe}

pub nothing_known : (s : Shown) → KnowsValue s values.Nothing
nothing_known s = ((plain s).nothing, refl)

pub gives_safe : (s : Shown) (a : Applied) → KnowsApplied s a → SafeAt s (gives a)
gives_safe s (applied.Value v) h = goes_safe s (Went v) h
gives_safe s (applied.Raised error) h = λ run st knows k safe. goes_safe s (flow_of (applied.Raised error)) tt run st knows k safe

-- values that are known, as the items of a display
pub items_known : (s : Shown) (vs : List Value) → Each s vs → KnowsItems s vs
items_known s [] h = (tt, tt)
items_known s (v ∷ vs) h =
    let rest : KnowsItems s vs = items_known s vs h.1 in
    (has_both s.modules (modules_in v) (flat_map modules_in vs) h.0.0.0 rest.0, has_both s.loads (loads_in v) (flat_map loads_in vs) h.0.0.1 rest.1)

pick_applied : (s : Shown) (b : Bool) (x y : Applied) → KnowsApplied s x → KnowsApplied s y → KnowsApplied s (if b then x else y)
pick_applied s true x y h k = h
pick_applied s false x y h k = k

pub list_known : (s : Shown) (vs : List Value) → Each s vs → KnowsApplied s (displayed values.List vs)
list_known s vs h =
    pick_applied s (list_any is_special vs) not_in_profile (limited (values.List vs)) tt
    ((operators s).limited (values.List vs) (displays s vs (items_known s vs h)).list refl)

pub tuple_known : (s : Shown) (vs : List Value) → Each s vs → KnowsApplied s (displayed values.Tuple vs)
tuple_known s vs h =
    pick_applied s (list_any is_special vs) not_in_profile (limited (values.Tuple vs)) tt
    ((operators s).limited (values.Tuple vs) (displays s vs (items_known s vs h)).tuple refl)

pub module_known : (s : Shown) (m : ModRef) → Has s.modules m → KnowsValue s (values.Module m)
module_known s m h = ((plain s).module_of m h, refl)

-- the load of the function that a value is
pub load_in : (s : Shown) (v : Value) → KnowsAll s v → (load index : ℕ) (name : List ℕ) → out-Value v ≡ Value-F.Func load index name → Has s.loads load
load_in s v h load index name is = (subst (KnowsLayer s) is (known_open s v h)).1.0
