-- What a reply shows of the values that it gives.
use Rattle.std.proofs.Common.{◌≡◌, inl, inr, List, [], ◌∷◌, ◌++◌, flat_map, refl, subst}
use Rattle.py_value.specs.declared.value.ModRef.{ModRef}
use Rattle.py_value.specs.declared.value.Value.{Value, out-Value}
use Rattle.py_value.specs.declared.value.Value.TheOpen.{Value-F}
use Rattle.machine_events.specs.declared.event.Event.{Event}
use Rattle.machine_events.specs.declared.event.Reply.TheVariants as r
use Rattle.machine_shown.specs.Shown.{Shown, shown_more, modules_in, loads_in}
use Rattle.machine_shown.specs.Knowing.{Has, HasAll, HasMid, KnowsAll, KnowsItems}
use Rattle.meaning_safety.proofs.Parts.{KnowsLayer, known_open, each_known}
use Rattle.meaning_safety.proofs.Growth.{all_grows}

pub has_number : (s : Shown) (m : ModRef) → Has s.modules m → HasMid s m.mid
has_number s m has = inr (m, has, refl)

pub all_here : {X : Type 0} (xs ys : List X) → HasAll (xs ++ ys) xs
all_here [] ys = tt
all_here (x ∷ xs) ys = (inl refl, all_grows (xs ++ ys) (x ∷ (xs ++ ys)) xs (λ z h. inr h) (all_here xs ys))

pub value_answered : (s : Shown) (event : Event) (v : Value) → KnowsAll (shown_more s (event, r.Value v)) v
value_answered s event v = (all_here (modules_in v) s.modules, all_here (loads_in v) s.loads)

-- the entries that a reply gave
pub path_answered : (s : Shown) (event : Event) (items : List Value) → KnowsItems (shown_more s (event, r.Path items)) items
path_answered s event items = (all_here (flat_map modules_in items) s.modules, all_here (flat_map loads_in items) s.loads)

-- the items of a list and of a tuple
pub list_items : (s : Shown) (v : Value) → KnowsAll s v → (items : List Value) → out-Value v ≡ Value-F.List items → KnowsItems s items
list_items s v h items is = each_known s items (subst (KnowsLayer s) is (known_open s v h))

pub tuple_items : (s : Shown) (v : Value) → KnowsAll s v → (items : List Value) → out-Value v ≡ Value-F.Tuple items → KnowsItems s items
tuple_items s v h items is = each_known s items (subst (KnowsLayer s) is (known_open s v h))

-- the module that a value is
pub module_in : (s : Shown) (v : Value) → KnowsAll s v → (m : ModRef) → out-Value v ≡ Value-F.Module m → Has s.modules m
module_in s v h m is = (subst (KnowsLayer s) is (known_open s v h)).0.0
