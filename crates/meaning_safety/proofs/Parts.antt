-- What is known of a value, by its layer.
use Rattle.std.proofs.Common.{◌≡◌, ◌∙◌, refl, sym, ap, subst, ℕ, zero, suc, List, [], ◌∷◌, ◌++◌, map, flat_map, Some, inr, append_assoc}
use Rattle.std.specs.List.{slice_get}
use Rattle.py_value.specs.declared.value.ModRef.{ModRef}
use Rattle.py_value.specs.declared.value.Value.{Value, roll-Value, out-Value, roll-out-Value, map-Value}
use Rattle.py_value.specs.declared.value.Value.TheFolds.{fold-roll-Value}
use Rattle.py_value.specs.declared.value.Value.TheOpen.{Value-F}
use Rattle.py_value.specs.declared.value.Value.TheVariants as values
use Rattle.py_value.specs.declared.value.Value.TheVariants.{rolls-Nothing, rolls-Bool, rolls-Int, rolls-Text, rolls-List, rolls-Tuple, rolls-Func, rolls-Native, rolls-Kind, rolls-Module, rolls-Error, rolls-SysModules, rolls-SysPath, rolls-NsPath}
use Rattle.machine_shown.specs.Shown.{Shown, modules_in, modules_at, loads_in, loads_at, named, load_numbered}
use Rattle.machine_shown.specs.Knowing.{Has, HasAll, KnowsAll, KnowsItems}
use Rattle.meaning_safety.specs.Laws.{PlainValuesHold, DisplaysHold, ItemsAreKnown, MoreIsKnown}

-- ---- lists of which all are there

module _ {X : Type 0} where
  pub has_both : (xs ys zs : List X) → HasAll xs ys → HasAll xs zs → HasAll xs (ys ++ zs)
  has_both xs [] zs h k = k
  has_both xs (y ∷ ys) zs h k = (h.0, has_both xs ys zs h.1 k)

  has_first : (xs ys zs : List X) → HasAll xs (ys ++ zs) → HasAll xs ys
  has_first xs [] zs h = tt
  has_first xs (y ∷ ys) zs h = (h.0, has_first xs ys zs h.1)

  has_second : (xs ys zs : List X) → HasAll xs (ys ++ zs) → HasAll xs zs
  has_second xs [] zs h = h
  has_second xs (y ∷ ys) zs h = has_second xs ys zs h.1

  has_behind : (ws xs : List X) (x : X) → Has xs x → Has (ws ++ xs) x
  has_behind [] xs x h = h
  has_behind (w ∷ ws) xs x h = inr (has_behind ws xs x h)

  -- of a longer list
  all_behind : (ws xs ys : List X) → HasAll xs ys → HasAll (ws ++ xs) ys
  all_behind ws xs [] h = tt
  all_behind ws xs (y ∷ ys) h = (has_behind ws xs y h.0, all_behind ws xs ys h.1)

-- ---- layers

abbrev pub modules_of : Value-F Value → List ModRef
modules_of x = modules_at (map-Value Value (List ModRef) modules_in x)

abbrev pub loads_of : Value-F Value → List ℕ
loads_of x = loads_at (map-Value Value (List ℕ) loads_in x)

-- `KnowsAll` of a layer
abbrev pub KnowsLayer : Shown → Value-F Value → Type 0
KnowsLayer s x = HasAll s.modules (modules_of x) × HasAll s.loads (loads_of x)

modules_roll : (x : Value-F Value) → modules_in (roll-Value x) ≡ modules_of x
modules_roll x = fold-roll-Value (List ModRef) modules_at x

loads_roll : (x : Value-F Value) → loads_in (roll-Value x) ≡ loads_of x
loads_roll x = fold-roll-Value (List ℕ) loads_at x

pub layer_known : (s : Shown) (x : Value-F Value) (v : Value) → roll-Value x ≡ v → KnowsLayer s x → KnowsAll s v
layer_known s x v is h =
    (subst (λ ms. HasAll s.modules ms) (sym (modules_roll x) ∙ ap modules_in is) h.0, subst (λ ls. HasAll s.loads ls) (sym (loads_roll x) ∙ ap loads_in is) h.1)

pub known_layer : (s : Shown) (x : Value-F Value) (v : Value) → roll-Value x ≡ v → KnowsAll s v → KnowsLayer s x
known_layer s x v is h =
    (subst (λ ms. HasAll s.modules ms) (ap modules_in (sym is) ∙ modules_roll x) h.0, subst (λ ls. HasAll s.loads ls) (ap loads_in (sym is) ∙ loads_roll x) h.1)

pub known_open : (s : Shown) (v : Value) → KnowsAll s v → KnowsLayer s (out-Value v)
known_open s v h = known_layer s (out-Value v) v (roll-out-Value v) h

-- ---- values without items

pub plain : PlainValuesHold
plain s = record {
  nothing = layer_known s Value-F.Nothing values.Nothing rolls-Nothing (tt, tt);
  bool = λ b. layer_known s (Value-F.Bool b) (values.Bool b) (rolls-Bool b) (tt, tt);
  number = λ n. layer_known s (Value-F.Int n) (values.Int n) (rolls-Int n) (tt, tt);
  text = λ text. layer_known s (Value-F.Text text) (values.Text text) (rolls-Text text) (tt, tt);
  native = λ native. layer_known s (Value-F.Native native) (values.Native native) (rolls-Native native) (tt, tt);
  kind = λ kind. layer_known s (Value-F.Kind kind) (values.Kind kind) (rolls-Kind kind) (tt, tt);
  error = λ error. layer_known s (Value-F.Error error) (values.Error error) (rolls-Error error) (tt, tt);
  sys_modules = layer_known s Value-F.SysModules values.SysModules rolls-SysModules (tt, tt);
  sys_path = layer_known s Value-F.SysPath values.SysPath rolls-SysPath (tt, tt);
  ns_path = layer_known s Value-F.NsPath values.NsPath rolls-NsPath (tt, tt);
  function = λ load index name h. layer_known s (Value-F.Func load index name) (values.Func load index name) (rolls-Func load index name) (tt, (h, tt));
  module_of = λ m h. layer_known s (Value-F.Module m) (values.Module m) (rolls-Module m) ((h, tt), tt);
}

-- ---- items

flat_modules : (items : List Value) → flat_map modules_in items ≡ flat_map (λ ms. ms) (map modules_in items)
flat_modules [] = refl
flat_modules (v ∷ items) = ap (λ ms. modules_in v ++ ms) (flat_modules items)

flat_loads : (items : List Value) → flat_map loads_in items ≡ flat_map (λ ls. ls) (map loads_in items)
flat_loads [] = refl
flat_loads (v ∷ items) = ap (λ ls. loads_in v ++ ls) (flat_loads items)

-- items as the layer of a list or tuple sees them
abbrev pub KnowsEach : Shown → List Value → Type 0
KnowsEach s items = HasAll s.modules (flat_map (λ ms. ms) (map modules_in items)) × HasAll s.loads (flat_map (λ ls. ls) (map loads_in items))

each_item : (s : Shown) (items : List Value) → KnowsItems s items → KnowsEach s items
each_item s items h = (subst (λ ms. HasAll s.modules ms) (flat_modules items) h.0, subst (λ ls. HasAll s.loads ls) (flat_loads items) h.1)

items_each : (s : Shown) (items : List Value) → KnowsEach s items → KnowsItems s items
items_each s items h = (subst (λ ms. HasAll s.modules ms) (sym (flat_modules items)) h.0, subst (λ ls. HasAll s.loads ls) (sym (flat_loads items)) h.1)

pub displays : DisplaysHold
displays s items h = record {
  list = layer_known s (Value-F.List items) (values.List items) (rolls-List items) (each_item s items h);
  tuple = layer_known s (Value-F.Tuple items) (values.Tuple items) (rolls-Tuple items) (each_item s items h);
}

first_known : (s : Shown) (v : Value) (items : List Value) → KnowsItems s (v ∷ items) → KnowsAll s v
first_known s v items h = (has_first s.modules (modules_in v) (flat_map modules_in items) h.0, has_first s.loads (loads_in v) (flat_map loads_in items) h.1)

others_known : (s : Shown) (v : Value) (items : List Value) → KnowsItems s (v ∷ items) → KnowsItems s items
others_known s v items h = (has_second s.modules (modules_in v) (flat_map modules_in items) h.0, has_second s.loads (loads_in v) (flat_map loads_in items) h.1)

pub item_known : (s : Shown) (items : List Value) (at : ℕ) (item : Value) → KnowsItems s items → slice_get items at ≡ Some item → KnowsAll s item
item_known s [] at item h e = absurd cc
item_known s (v ∷ items) zero item h e = let same : v ≡ item = cc in subst (KnowsAll s) same (first_known s v items h)
item_known s (v ∷ items) (suc at) item h e = item_known s items at item (others_known s v items h) e

pub of_list : (s : Shown) (items : List Value) → KnowsAll s (values.List items) → KnowsItems s items
of_list s items h = items_each s items (known_layer s (Value-F.List items) (values.List items) (rolls-List items) h)

pub of_tuple : (s : Shown) (items : List Value) → KnowsAll s (values.Tuple items) → KnowsItems s items
of_tuple s items h = items_each s items (known_layer s (Value-F.Tuple items) (values.Tuple items) (rolls-Tuple items) h)

pub items_known : ItemsAreKnown
items_known s items = record { of_list = of_list s items; of_tuple = of_tuple s items; one = item_known s items }

-- two lists one after the other
append_modules : (xs ys : List Value) → flat_map (λ ms. ms) (map modules_in (xs ++ ys)) ≡ flat_map (λ ms. ms) (map modules_in xs) ++ flat_map (λ ms. ms) (map modules_in ys)
append_modules [] ys = refl
append_modules (v ∷ xs) ys = ap (λ ms. modules_in v ++ ms) (append_modules xs ys) ∙ simp append_assoc

append_loads : (xs ys : List Value) → flat_map (λ ls. ls) (map loads_in (xs ++ ys)) ≡ flat_map (λ ls. ls) (map loads_in xs) ++ flat_map (λ ls. ls) (map loads_in ys)
append_loads [] ys = refl
append_loads (v ∷ xs) ys = ap (λ ls. loads_in v ++ ls) (append_loads xs ys) ∙ simp append_assoc

pub both_known : (s : Shown) (xs ys : List Value) → KnowsEach s xs → KnowsEach s ys → KnowsEach s (xs ++ ys)
both_known s xs ys h k = (
  subst (λ ms. HasAll s.modules ms) (sym (append_modules xs ys)) (has_both s.modules (flat_map (λ ms. ms) (map modules_in xs)) (flat_map (λ ms. ms) (map modules_in ys)) h.0 k.0),
  subst (λ ls. HasAll s.loads ls) (sym (append_loads xs ys)) (has_both s.loads (flat_map (λ ls. ls) (map loads_in xs)) (flat_map (λ ls. ls) (map loads_in ys)) h.1 k.1),
)

pub each_known : (s : Shown) (items : List Value) → KnowsEach s items → KnowsItems s items
each_known = items_each

-- ---- more is known

pub more : MoreIsKnown
more s event reply v h = (all_behind (named reply) s.modules (modules_in v) h.0, all_behind (load_numbered reply) s.loads (loads_in v) h.1)
