-- Membership and subscription (Language Reference 6.10.2, 6.3.2), and length.
use Rattle.std.specs.Prelude.{ℕ, suc, ◌-◌, List, [], ◌∷◌, ◌++◌, length, slice_get, codes, Bool, true, false, nat_lt, ◌||◌, ◌&&◌, if◌then◌else◌, ℤ, pos, negsuc, Option, Some, None}
use Rattle.std.specs.Option.{option_map, option_and_then}
use Rattle.std.specs.List.{starts_with}
use Rattle.std.specs.Str.{chars}
use Rattle.std.specs.Char.{encode_utf8}
use Rattle.std.specs.Prelude.{nat_eq}
use Rattle.py_value.specs.declared.kind.Kind.TheVariants as kinds
use Rattle.py_value.specs.declared.value.Value.{Value, out-Value}
use Rattle.py_value.specs.declared.value.Value.TheVariants as values
use Rattle.py_value.specs.declared.value.Value.TheOpen.{Value-F}
use Rattle.py_value.specs.declared.operator.Applied.{Applied}
use Rattle.py_value.specs.declared.operator.Applied.TheVariants as applied
use Rattle.py_value.specs.Names.{type_name}
use Rattle.value_operators.specs.Outcomes.{raises, type_error, not_in_profile, is_special, is_plain, number_of, truth_value}
use Rattle.value_operators.specs.Comparison.{order_of, is_same}

-- item by item: the first that equals, or that is not compared, decides
abbrev pub among : List Value → Value → Applied
among [] item = truth_value false
among (x ∷ xs) item =
    if is_plain x && is_plain item then (if is_same (order_of x item) then truth_value true else among xs item)
    else not_in_profile

-- whether the needle's bytes stand somewhere in the text
abbrev pub holds_text : List ℕ → List ℕ → Bool
holds_text [] needle = starts_with nat_eq [] needle
holds_text (b ∷ text) needle = starts_with nat_eq (b ∷ text) needle || holds_text text needle

-- the TypeError of `in` that names the container's type: it has no items, or is a text and the item is none
abbrev pub not_iterable : Value → Applied
not_iterable container = type_error (codes "argument of type '" ++ type_name container ++ codes "' is not iterable")

-- a text stands in a text where its bytes do; an item that is no text has the other outcome
abbrev pub inside_text : List ℕ → Value-F Value → Applied → Applied
inside_text text (Value-F.Text needle) otherwise = truth_value (holds_text text needle)
inside_text text item otherwise = otherwise

-- a list or tuple is asked item by item, a text for the item's bytes; any other container has the other outcome
abbrev pub contains_at : Value-F Value → Value → Applied → Applied
contains_at (Value-F.List items) item otherwise = among items item
contains_at (Value-F.Tuple items) item otherwise = among items item
contains_at (Value-F.Text text) item otherwise = inside_text text (out-Value item) otherwise
contains_at _ item otherwise = otherwise

-- `in` (Language Reference 6.10.2); what stands for something in the machine is neither container nor item
abbrev pub contains : Value → Value → Applied
contains container item =
    if is_special container || is_special item then not_in_profile
    else contains_at (out-Value container) item (not_iterable container)

-- a place counted from the start, or from the end where it is below 0
abbrev pub place_of : ℕ → ℤ → Option ℕ
place_of len (pos n) = if nat_lt n len then Some n else None
place_of len (negsuc n) = if nat_lt n len then Some (len - suc n) else None

-- the item at a place that may be counted from the end, and none past either end
abbrev pub item_at : {X : Type 0} → List X → ℤ → Option X
item_at xs n = option_and_then (λ at. slice_get xs at) (place_of (length xs) n)

-- the IndexError of a place past either end, with the name of what was subscripted
abbrev pub out_of_range : List ℕ → Applied
out_of_range name = raises kinds.IndexError (name ++ codes " index out of range")

-- an item that is there is the value; where none is, the other outcome is
abbrev pub found : Option Value → Applied → Applied
found (Some item) otherwise = applied.Value item
found None otherwise = otherwise

-- a code point as a text
abbrev pub letter : ℕ → Value
letter c = values.Text (encode_utf8 c)

-- a list or tuple gives an item, a text a code point; any other value has the other outcome
abbrev pub subscript_at : Value-F Value → ℤ → Applied → Applied
subscript_at (Value-F.List items) n otherwise = found (item_at items n) (out_of_range (codes "list"))
subscript_at (Value-F.Tuple items) n otherwise = found (item_at items n) (out_of_range (codes "tuple"))
subscript_at (Value-F.Text text) n otherwise = found (option_map letter (item_at (chars text) n)) (out_of_range (codes "string"))
subscript_at _ n otherwise = otherwise

-- what can be subscripted: a list, a tuple or a text, an empty one too
abbrev pub has_items : Value-F Value → Bool
has_items (Value-F.List items) = true
has_items (Value-F.Tuple items) = true
has_items (Value-F.Text text) = true
has_items _ = false

-- the TypeError of a subscription of what has no items, whatever the index is
abbrev pub not_subscriptable : Value → Applied
not_subscriptable value = type_error (codes "'" ++ type_name value ++ codes "' object is not subscriptable")

-- an index is a number or a Bool; any other has an error of its own only where the value has items
abbrev pub at_index : Value → Option ℤ → Applied
at_index value (Some n) = subscript_at (out-Value value) n (not_subscriptable value)
at_index value None = if has_items (out-Value value) then type_error (codes "indices must be integers") else not_subscriptable value

-- subscription (Language Reference 6.3.2); what stands for something in the machine is neither value nor index
abbrev pub subscript : Value → Value → Applied
subscript value index =
    if is_special value || is_special index then not_in_profile
    else at_index value (number_of index)

-- how many items a list or tuple has, and how many code points a text
abbrev pub length_at : Value-F Value → Option ℕ
length_at (Value-F.List items) = Some (length items)
length_at (Value-F.Tuple items) = Some (length items)
length_at (Value-F.Text text) = Some (length (chars text))
length_at _ = None

-- the length of a value, which what has no items does not have
abbrev pub length_of : Value → Option ℕ
length_of value = length_at (out-Value value)
