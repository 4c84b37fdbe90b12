-- Comparison and identity (Language Reference 6.10).
use Rattle.std.specs.Prelude.{ℕ, List, [], ◌∷◌, ◌++◌, codes, Bool, true, false, not, ◌==◌, ◌&&◌, ◌||◌, if◌then◌else◌, ℤ, int_lt, Option, Some, None}
use Rattle.std.specs.Ordering.{nat_cmp}
use Rattle.std.specs.declared.cmp.Ordering.{Ordering}
use Rattle.std.specs.declared.cmp.Ordering.TheVariants as orders
use Rattle.std.specs.Cmp.Lexicographic.{slice_cmp}
use Rattle.py_value.specs.contracts.kind.KindPartialEq.TheImpl as kind_equality
use Rattle.py_value.specs.contracts.kind.NativePartialEq.TheImpl as native_equality
use Rattle.py_value.specs.declared.kind.Kind.{Kind}
use Rattle.py_value.specs.declared.kind.Native.{Native}
use Rattle.py_value.specs.declared.value.Value.{Value, out-Value}
use Rattle.py_value.specs.declared.value.Value.TheOpen.{Value-F}
use Rattle.py_value.specs.declared.value.Value.TheFolds.{fold-Value}
use Rattle.py_value.specs.declared.names.TypeName.{TypeName}
use Rattle.py_value.specs.declared.names.TypeName.TheVariants as types
use Rattle.py_value.specs.declared.operator.Applied.{Applied}
use Rattle.py_value.specs.declared.operator.CmpOp.{CmpOp}
use Rattle.py_value.specs.declared.operator.CmpOp.TheVariants as ops
use Rattle.py_value.specs.Names.{type_at, type_of, type_text}
use Rattle.value_operators.specs.declared.comparison.Compared.{Compared}
use Rattle.value_operators.specs.declared.comparison.Compared.TheVariants as compares
use Rattle.value_operators.specs.Outcomes.{type_error, not_in_profile, is_special, is_plain, bool_number, number_of, truth_value}

-- the lesser of two numbers comes first, and two of which neither is less are the same
abbrev pub compared_numbers : ℤ → ℤ → Compared
compared_numbers a b = if int_lt a b then compares.Less else if int_lt b a then compares.Greater else compares.Same

-- an order of bytes as one of values: what is equal there is the same here
abbrev pub from_ordering : Ordering → Compared
from_ordering orders.Less = compares.Less
from_ordering orders.Equal = compares.Same
from_ordering orders.Greater = compares.Greater

-- by bytes
abbrev pub compared_texts : List ℕ → List ℕ → Compared
compared_texts a b = from_ordering (slice_cmp nat_cmp a b)

-- what has no order is the same or not
abbrev pub same_where : Bool → TypeName → Value → Compared
same_where same left right = if same then compares.Same else compares.Apart left (type_of right)

-- a number beside a number or a Bool has an order; beside any other value it is apart
abbrev pub beside_number : TypeName → ℤ → Value → Option ℤ → Compared
beside_number left a right (Some b) = compared_numbers a b
beside_number left a right None = compares.Apart left (type_of right)

-- a text has an order beside a text alone
abbrev pub beside_text : List ℕ → Value → Value-F Value → Compared
beside_text a right (Value-F.Text b) = compared_texts a b
beside_text a right _ = compares.Apart types.Str (type_of right)

-- the first comparison decides unless it found the same, and else the next one does
abbrev pub unless_same : Compared → Compared → Compared
unless_same compares.Same rest = rest
unless_same found rest = found

-- by the first items that differ, and else by length
abbrev pub compared_items : List (Value → Compared) → List Value → Compared
compared_items [] [] = compares.Same
compared_items [] (y ∷ ys) = compares.Less
compared_items (x ∷ xs) [] = compares.Greater
compared_items (x ∷ xs) (y ∷ ys) = unless_same (x y) (compared_items xs ys)

-- a list is compared with a list alone, item by item; beside all else, also a tuple, it is apart
abbrev pub beside_list : List (Value → Compared) → Value → Value-F Value → Compared
beside_list items right (Value-F.List others) = compared_items items others
beside_list items right _ = compares.Apart types.List (type_of right)

-- a tuple is compared with a tuple alone, item by item; beside all else, also a list, it is apart
abbrev pub beside_tuple : List (Value → Compared) → Value → Value-F Value → Compared
beside_tuple items right (Value-F.Tuple others) = compared_items items others
beside_tuple items right _ = compares.Apart types.Tuple (type_of right)

-- whether the value is None, of which there is one (Language Reference 3.2, "None")
abbrev pub is_nothing : Value-F Value → Bool
is_nothing Value-F.Nothing = true
is_nothing _ = false

-- whether the value is the same function: at this place among the functions of this load's text, whatever its name
abbrev pub is_func : ℕ → ℕ → Value-F Value → Bool
is_func load index (Value-F.Func other_load other_index name) = load == other_load && index == other_index
is_func load index _ = false

-- whether the value is the same native, as there is one of each
abbrev pub is_native : Native → Value-F Value → Bool
is_native native (Value-F.Native other) = native_equality.ghosts.eq native other
is_native native _ = false

-- whether the value is the same kind, and not one above or below it
abbrev pub is_kind : Kind → Value-F Value → Bool
is_kind kind (Value-F.Kind other) = kind_equality.ghosts.eq kind other
is_kind kind _ = false

-- whether the value is the same module, which its number alone tells
abbrev pub is_module : ℕ → Value-F Value → Bool
is_module mid (Value-F.Module other) = mid == other.mid
is_module mid _ = false

-- one layer of the left value, with how each of its items compares in its place: two numbers (a Bool
-- counts as 0 or 1), two texts, two lists or two tuples have an order; None, one function, native,
-- kind or module is the same as itself
abbrev pub compared_at : Value-F (Value → Compared) → Value → Compared
compared_at Value-F.Nothing right = same_where (is_nothing (out-Value right)) types.NoneType right
compared_at (Value-F.Bool b) right = beside_number types.Bool (bool_number b) right (number_of right)
compared_at (Value-F.Int n) right = beside_number types.Int n right (number_of right)
compared_at (Value-F.Text text) right = beside_text text right (out-Value right)
compared_at (Value-F.List items) right = beside_list items right (out-Value right)
compared_at (Value-F.Tuple items) right = beside_tuple items right (out-Value right)
compared_at (Value-F.Func load index name) right = same_where (is_func load index (out-Value right)) types.Function right
compared_at (Value-F.Native native) right = same_where (is_native native (out-Value right)) (type_at {X = Value} (Value-F.Native native)) right
compared_at (Value-F.Kind kind) right = same_where (is_kind kind (out-Value right)) types.Type right
compared_at (Value-F.Module held) right = same_where (is_module held.mid (out-Value right)) types.Module right
compared_at left right = compares.Apart (type_at left) (type_of right)

-- how the left value compares to the right one, down through all that they hold
abbrev pub order_of : Value → Value → Compared
order_of = fold-Value (Value → Compared) compared_at

-- only what was found to be the same counts as equal; what has no order is unequal
abbrev pub is_same : Compared → Bool
is_same compares.Same = true
is_same _ = false

-- the operator as it is written
abbrev pub written : CmpOp → List ℕ
written ops.Eq = codes "=="
written ops.Ne = codes "!="
written ops.Lt = codes "<"
written ops.Le = codes "<="
written ops.Gt = codes ">"
written ops.Ge = codes ">="

-- the TypeError of `<`, `<=`, `>` and `>=` between two types without an order (Language Reference 6.10.1)
abbrev pub no_order : CmpOp → TypeName → TypeName → Applied
no_order op left right =
    type_error (codes "'" ++ written op ++ codes "' not supported between instances of '" ++ type_text left ++ codes "' and '" ++ type_text right ++ codes "'")

-- which operators of order hold where the left value comes first
abbrev pub where_less : CmpOp → Bool
where_less ops.Lt = true
where_less ops.Le = true
where_less _ = false

-- which operators of order hold where both are the same
abbrev pub where_same : CmpOp → Bool
where_same ops.Le = true
where_same ops.Ge = true
where_same _ = false

-- which operators of order hold where the right value comes first
abbrev pub where_greater : CmpOp → Bool
where_greater ops.Gt = true
where_greater ops.Ge = true
where_greater _ = false

-- the operator's answer by how the values compare; the types named in the error are of those two that are apart,
-- which may be items of the values
abbrev pub by_order : CmpOp → Compared → Applied
by_order op compares.Less = truth_value (where_less op)
by_order op compares.Same = truth_value (where_same op)
by_order op compares.Greater = truth_value (where_greater op)
by_order op (compares.Apart left right) = no_order op left right

-- numbers, texts, lists and tuples have an order
abbrev pub has_order : Value-F Value → Bool
has_order (Value-F.Bool b) = true
has_order (Value-F.Int n) = true
has_order (Value-F.Text text) = true
has_order (Value-F.List items) = true
has_order (Value-F.Tuple items) = true
has_order _ = false

-- `<`, `<=`, `>` and `>=`: a left value that has no order raises, even beside one that is the same
abbrev pub ordered : CmpOp → Value → Value → Applied
ordered op left right =
    if has_order (out-Value left) then by_order op (order_of left right)
    else no_order op (type_of left) (type_of right)

-- `==` and `!=` answer for any two values, and the other operators where there is an order
abbrev pub answered : CmpOp → Value → Value → Applied
answered ops.Eq left right = truth_value (is_same (order_of left right))
answered ops.Ne left right = truth_value (not (is_same (order_of left right)))
answered op left right = ordered op left right

-- what is or holds an error, or holds what stands for something in the machine, is not compared
abbrev pub compare : CmpOp → Value → Value → Applied
compare op left right =
    if is_plain left && is_plain right then answered op left right else not_in_profile

-- `is`: beside None, or between modules
abbrev pub module_beside : ℕ → Value-F Value → Applied
module_beside mid Value-F.Nothing = truth_value false
module_beside mid (Value-F.Module other) = truth_value (mid == other.mid)
module_beside mid right = not_in_profile

-- `is` with neither None nor a module on the left: beside None it is False, and beside all else left out
abbrev pub other_beside : Value-F Value → Applied
other_beside Value-F.Nothing = truth_value false
other_beside right = not_in_profile

-- None is None alone; a module is compared by number; all else has no identity here and answers beside None alone
abbrev pub identical_at : Value-F Value → Value-F Value → Applied
identical_at Value-F.Nothing right = truth_value (is_nothing right)
identical_at (Value-F.Module held) right = module_beside held.mid right
identical_at left right = other_beside right

-- `is` (Language Reference 6.10.3); what stands for something in the machine is no operand
abbrev pub identical : Value → Value → Applied
identical left right =
    if is_special left || is_special right then not_in_profile
    else identical_at (out-Value left) (out-Value right)
