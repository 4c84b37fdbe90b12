-- What the operators give is known.
use Rattle.std.specs.Prelude.{◌≡◌, refl, ℕ, zero, suc, Bool, true, false, not, ◌&&◌, ◌||◌, ◌==◌, nat_lt, if◌then◌else◌, List, [], ◌∷◌, ◌++◌, length, codes, ℤ, pos, negsuc, neg_ℤ, ◌+ℤ◌, ◌-ℤ◌, ◌*ℤ◌, Option, Some, None}
use Rattle.std.specs.Str.{chars}
use Rattle.std.specs.Char.{encode_utf8}
use Rattle.std.specs.List.{slice_get}
use Rattle.std.specs.Option.{option_map, option_and_then}
use Rattle.py_value.specs.declared.value.Value.{Value, out-Value}
use Rattle.py_value.specs.declared.value.Value.TheOpen.{Value-F}
use Rattle.py_value.specs.declared.value.Value.TheVariants as values
use Rattle.py_value.specs.declared.value.Value.TheVariants.{rolls-List, rolls-Tuple}
use Rattle.py_value.specs.declared.operator.Applied.{Applied}
use Rattle.py_value.specs.declared.operator.Applied.TheVariants as applied
use Rattle.py_value.specs.declared.operator.BinOp.{BinOp}
use Rattle.py_value.specs.declared.operator.BinOp.TheVariants as ops
use Rattle.py_value.specs.declared.operator.CmpOp.{CmpOp}
use Rattle.py_value.specs.declared.operator.CmpOp.TheVariants as cmps
use Rattle.py_value.specs.Names.{type_of}
use Rattle.py_value.specs.Measures.{nesting_of}
use Rattle.value_operators.specs.declared.comparison.Compared.{Compared}
use Rattle.value_operators.specs.declared.comparison.Compared.TheVariants as compares
use Rattle.value_operators.specs.Arithmetic as arithmetic
use Rattle.value_operators.specs.Comparison as comparison
use Rattle.value_operators.specs.Items as items
use Rattle.value_operators.specs.Outcomes.{not_in_profile, profile_error, type_error, limited, is_long_text, is_long_list, fitting, number, truth_value, number_of, is_special, is_plain}
use Rattle.value_texts.specs.Texts as texts
use Rattle.machine_shown.specs.Shown.{Shown, is_namespace_path}
use Rattle.machine_shown.specs.Knowing.{KnowsAll, KnowsItems}
use Rattle.meaning_safety.specs.Laws.{KnowsApplied, KnowsGiven, OperatorsHold}
use Rattle.meaning_safety.proofs.Parts.{KnowsLayer, KnowsEach, layer_known, known_open, plain, item_known, each_known, both_known}

module _ (s : Shown) where
  abbrev Known : Applied → Type 0
  Known = KnowsApplied s

  abbrev Given : Applied → Type 0
  Given = KnowsGiven s

  pick_given : (b : Bool) (x y : Applied) → Given x → Given y → Given (if b then x else y)
  pick_given true x y h k = h
  pick_given false x y h k = k

  -- either of two
  pick : (b : Bool) (x y : Applied) → Known x → Known y → Known (if b then x else y)
  pick true x y h k = h
  pick false x y h k = k

  number_known : (n : Option ℤ) → Known (number n)
  number_known (Some n) = ((plain s).number n, refl)
  number_known None = tt

  truth_known : (b : Bool) → Known (truth_value b)
  truth_known b = ((plain s).bool b, refl)

  abbrev unless_deep : Value → Applied
  unless_deep v = if nat_lt 64 (nesting_of v) then profile_error (codes "list too deep") else applied.Value v

  abbrev unless_long : Value → Applied
  unless_long v = if is_long_list (out-Value v) then profile_error (codes "list too long") else unless_deep v

  limited_known : (v : Value) → KnowsAll s v → is_namespace_path v ≡ false → Known (limited v)
  limited_known v h apart =
      pick (is_long_text (out-Value v)) (profile_error (codes "text too long")) (unless_long v) tt
      (pick (is_long_list (out-Value v)) (profile_error (codes "list too long")) (unless_deep v) tt
      (pick (nat_lt 64 (nesting_of v)) (profile_error (codes "list too deep")) (applied.Value v) tt (h, apart)))

  text_known : (text : List ℕ) → Known (limited (values.Text text))
  text_known text = limited_known (values.Text text) ((plain s).text text) refl

  list_known : (xs : List Value) → KnowsEach s xs → Known (limited (values.List xs))
  list_known xs h = limited_known (values.List xs) (layer_known s (Value-F.List xs) (values.List xs) (rolls-List xs) h) refl

  tuple_known : (xs : List Value) → KnowsEach s xs → Known (limited (values.Tuple xs))
  tuple_known xs h = limited_known (values.Tuple xs) (layer_known s (Value-F.Tuple xs) (values.Tuple xs) (rolls-Tuple xs) h) refl

  -- ---- binary operators

  divided_known : (a b : ℤ) → Known (arithmetic.divided a b)
  divided_known a (pos zero) = tt
  divided_known a (pos (suc n)) = number_known (fitting (arithmetic.floor_quotient a (pos (suc n))))
  divided_known a (negsuc n) = number_known (fitting (arithmetic.floor_quotient a (negsuc n)))

  remainder_known : (a b : ℤ) → Known (arithmetic.remainder a b)
  remainder_known a (pos zero) = tt
  remainder_known a (pos (suc n)) = number_known (fitting (arithmetic.floor_remainder a (pos (suc n))))
  remainder_known a (negsuc n) = number_known (fitting (arithmetic.floor_remainder a (negsuc n)))

  calculated_known : (op : BinOp) (a b : ℤ) → Known (arithmetic.calculated op a b)
  calculated_known ops.Add a b = number_known (fitting (a +ℤ b))
  calculated_known ops.Sub a b = number_known (fitting (a -ℤ b))
  calculated_known ops.Mul a b = number_known (fitting (a *ℤ b))
  calculated_known ops.FloorDiv a b = divided_known a b
  calculated_known ops.Mod a b = remainder_known a b

  joined_known : (l r : Value-F Value) (o : Applied) → KnowsLayer s l → KnowsLayer s r → Known o → Known (arithmetic.joined l r o)
  joined_known (Value-F.Text a) (Value-F.Text b) o h k p = text_known (a ++ b)
  joined_known (Value-F.List a) (Value-F.List b) o h k p = list_known (a ++ b) (both_known s a b h k)
  joined_known (Value-F.Tuple a) (Value-F.Tuple b) o h k p = tuple_known (a ++ b) (both_known s a b h k)
  joined_known l r o h k p = p

  repeated_text_known : (text : List ℕ) (n : ℤ) → Known (arithmetic.repeated_text text n)
  repeated_text_known text (pos n) = text_known (arithmetic.copies n text)
  repeated_text_known text (negsuc n) = text_known []

  times_known : (x : Value-F Value) (n : ℤ) (o : Applied) → Known o → Known (arithmetic.times x n o)
  times_known (Value-F.Text text) n o p = repeated_text_known text n
  times_known (Value-F.List xs) n o p = tt
  times_known (Value-F.Tuple xs) n o p = tt
  times_known x n o p = p

  repeated_known : (l r : Value) (a b : Option ℤ) (o : Applied) → Known o → Known (arithmetic.repeated l r a b o)
  repeated_known l r (Some a) None o p = times_known (out-Value r) a o p
  repeated_known l r None (Some b) o p = times_known (out-Value l) b o p
  repeated_known l r (Some a) (Some b) o p = p
  repeated_known l r None None o p = p

  formatted_known : (x : Value-F Value) (o : Applied) → Known o → Known (arithmetic.formatted x o)
  formatted_known (Value-F.Text text) o p = tt
  formatted_known x o p = p

  combined_known : (op : BinOp) (l r : Value) → KnowsAll s l → KnowsAll s r → Known (arithmetic.combined op l r)
  combined_known ops.Add l r h k = joined_known (out-Value l) (out-Value r) (arithmetic.unsupported ops.Add l r) (known_open s l h) (known_open s r k) tt
  combined_known ops.Mul l r h k = repeated_known l r (number_of l) (number_of r) (arithmetic.unsupported ops.Mul l r) tt
  combined_known ops.Mod l r h k = formatted_known (out-Value l) (arithmetic.unsupported ops.Mod l r) tt
  combined_known ops.Sub l r h k = tt
  combined_known ops.FloorDiv l r h k = tt

  by_numbers_known : (op : BinOp) (l r : Value) (a b : Option ℤ) → KnowsAll s l → KnowsAll s r → Known (arithmetic.by_numbers op l r a b)
  by_numbers_known op l r (Some a) (Some b) h k = calculated_known op a b
  by_numbers_known op l r (Some a) None h k = combined_known op l r h k
  by_numbers_known op l r None (Some b) h k = combined_known op l r h k
  by_numbers_known op l r None None h k = combined_known op l r h k

  binary_known : (op : BinOp) (l r : Value) → KnowsAll s l → KnowsAll s r → Known (arithmetic.binary op l r)
  binary_known op l r h k = pick (is_special l || is_special r) not_in_profile (arithmetic.by_numbers op l r (number_of l) (number_of r)) tt (by_numbers_known op l r (number_of l) (number_of r) h k)

  augmented_at_known : (op : BinOp) (x : Value-F Value) (o : Applied) → Known o → Known (arithmetic.augmented_at op x o)
  augmented_at_known ops.Add (Value-F.List xs) o p = tt
  augmented_at_known op x o p = p

  negated_known : (v : Value) (n : Option ℤ) → Known (arithmetic.negated_number v n)
  negated_known v (Some n) = number_known (fitting (neg_ℤ n))
  negated_known v None = tt

  -- ---- comparison

  by_order_known : (op : CmpOp) (c : Compared) → Known (comparison.by_order op c)
  by_order_known op compares.Less = truth_known (comparison.where_less op)
  by_order_known op compares.Same = truth_known (comparison.where_same op)
  by_order_known op compares.Greater = truth_known (comparison.where_greater op)
  by_order_known op (compares.Apart l r) = tt

  ordered_known : (op : CmpOp) (l r : Value) → Known (comparison.ordered op l r)
  ordered_known op l r =
      pick (comparison.has_order (out-Value l)) (comparison.by_order op (comparison.order_of l r)) (comparison.no_order op (type_of l) (type_of r)) (by_order_known op (comparison.order_of l r)) tt

  answered_known : (op : CmpOp) (l r : Value) → Known (comparison.answered op l r)
  answered_known cmps.Eq l r = truth_known (comparison.is_same (comparison.order_of l r))
  answered_known cmps.Ne l r = truth_known (not (comparison.is_same (comparison.order_of l r)))
  answered_known cmps.Lt l r = ordered_known cmps.Lt l r
  answered_known cmps.Le l r = ordered_known cmps.Le l r
  answered_known cmps.Gt l r = ordered_known cmps.Gt l r
  answered_known cmps.Ge l r = ordered_known cmps.Ge l r

  module_beside_known : (mid : ℕ) (x : Value-F Value) → Known (comparison.module_beside mid x)
  module_beside_known mid Value-F.Nothing = truth_known false
  module_beside_known mid (Value-F.Module other) = truth_known (mid == other.mid)
  module_beside_known mid x = tt

  other_beside_known : (x : Value-F Value) → Known (comparison.other_beside x)
  other_beside_known Value-F.Nothing = truth_known false
  other_beside_known x = tt

  identical_known : (x y : Value-F Value) → Known (comparison.identical_at x y)
  identical_known Value-F.Nothing y = truth_known (comparison.is_nothing y)
  identical_known (Value-F.Module held) y = module_beside_known held.mid y
  identical_known x y = other_beside_known y

  -- ---- items

  among_known : (xs : List Value) (item : Value) → Known (items.among xs item)
  among_known [] item = truth_known false
  among_known (x ∷ xs) item =
      pick (is_plain x && is_plain item) (if comparison.is_same (comparison.order_of x item) then truth_value true else items.among xs item) not_in_profile
      (pick (comparison.is_same (comparison.order_of x item)) (truth_value true) (items.among xs item) (truth_known true) (among_known xs item)) tt

  inside_known : (text : List ℕ) (x : Value-F Value) (o : Applied) → Known o → Known (items.inside_text text x o)
  inside_known text (Value-F.Text needle) o p = truth_known (items.holds_text text needle)
  inside_known text x o p = p

  contains_known : (x : Value-F Value) (item : Value) (o : Applied) → Known o → Known (items.contains_at x item o)
  contains_known (Value-F.List xs) item o p = among_known xs item
  contains_known (Value-F.Tuple xs) item o p = among_known xs item
  contains_known (Value-F.Text text) item o p = inside_known text (out-Value item) o p
  contains_known x item o p = p

  found_known : (xs : List Value) (at : ℕ) (item : Option Value) (o : Applied) → KnowsItems s xs → slice_get xs at ≡ item → Given o → Given (items.found item o)
  found_known xs at (Some item) o h e p = item_known s xs at item h e
  found_known xs at None o h e p = p

  item_at_known : (xs : List Value) (place : Option ℕ) (o : Applied) → KnowsEach s xs → Given o → Given (items.found (option_and_then (λ at. slice_get xs at) place) o)
  item_at_known xs (Some at) o h p = found_known xs at (slice_get xs at) o (each_known s xs h) refl p
  item_at_known xs None o h p = p

  letter_known : (c : Option ℕ) (o : Applied) → Given o → Given (items.found (option_map items.letter c) o)
  letter_known (Some c) o p = (plain s).text (encode_utf8 c)
  letter_known None o p = p

  subscript_at_known : (x : Value-F Value) (n : ℤ) (o : Applied) → KnowsLayer s x → Given o → Given (items.subscript_at x n o)
  subscript_at_known (Value-F.List xs) n o h p = item_at_known xs (items.place_of (length xs) n) (items.out_of_range (codes "list")) h tt
  subscript_at_known (Value-F.Tuple xs) n o h p = item_at_known xs (items.place_of (length xs) n) (items.out_of_range (codes "tuple")) h tt
  subscript_at_known (Value-F.Text text) n o h p = letter_known (items.item_at (chars text) n) (items.out_of_range (codes "string")) tt
  subscript_at_known x n o h p = p

  at_index_known : (v : Value) (n : Option ℤ) → KnowsAll s v → Given (items.at_index v n)
  at_index_known v (Some n) h = subscript_at_known (out-Value v) n (items.not_subscriptable v) (known_open s v h) tt
  at_index_known v None h = pick_given (items.has_items (out-Value v)) (type_error (codes "indices must be integers")) (items.not_subscriptable v) tt tt

  -- ---- texts

  repr_known : (v : Value) → Known (texts.repr_of v)
  repr_known v = pick (is_plain v) (limited (values.Text (texts.repr_text v))) not_in_profile (text_known (texts.repr_text v)) tt

  str_known : (x : Value-F Value) (o : Applied) → Known o → Known (texts.str_at x o)
  str_known (Value-F.Text text) o p = text_known text
  str_known (Value-F.Error error) o p = text_known error.text
  str_known x o p = p

pub operators : OperatorsHold
operators s = record {
  binary = binary_known s;
  augmented = λ op l r h k. augmented_at_known s op (out-Value l) (arithmetic.binary op l r) (binary_known s op l r h k);
  subscript = λ v i h. pick_given s (is_special v || is_special i) not_in_profile (items.at_index v (number_of i)) tt (at_index_known s v (number_of i) h);
  limited = limited_known s;
  negated = λ v. pick s (is_special v) not_in_profile (arithmetic.negated_number v (number_of v)) tt (negated_known s v (number_of v));
  compare = λ op l r. pick s (is_plain l && is_plain r) (comparison.answered op l r) not_in_profile (answered_known s op l r) tt;
  identical = λ l r. pick s (is_special l || is_special r) not_in_profile (comparison.identical_at (out-Value l) (out-Value r)) tt (identical_known s (out-Value l) (out-Value r));
  contains = λ c i. pick s (is_special c || is_special i) not_in_profile (items.contains_at (out-Value c) i (items.not_iterable c)) tt (contains_known s (out-Value c) i (items.not_iterable c) tt);
  str = λ v. str_known s (out-Value v) (texts.repr_of v) (repr_known s v);
  repr = repr_known s;
}
