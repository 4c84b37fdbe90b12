-- What the fields of a trace hold that have parts.
use Rattle.std.specs.Prelude.{ℕ, zero, suc, ◌^◌, ℤ, pos, negsuc, List, [], ◌∷◌, codes, Bool, ◌==◌, ◌&&◌, ◌||◌, nat_lt, Option, Some, None, if◌then◌else◌}
use Rattle.std.specs.Option.{option_map, option_and_then, option_or}
use Rattle.std.specs.List.{list_all, slice_split}
use Rattle.std.specs.Char.{is_ascii_digit}
use Rattle.std.specs.Fmt.{signed_decimal}
use Rattle.std.specs.Str.{bytes_eq}
use Rattle.std.specs.Str.Parse.{signed_digits_value}
use Rattle.base_types.specs.Path.{Path, is_part}
use Rattle.spec_core.specs.declared.spec.SpecKind.{SpecKind}
use Rattle.spec_core.specs.declared.spec.SpecKind.TheVariants as kinds
use Rattle.py_value.specs.declared.value.Place.{Place}
use Rattle.py_value.specs.declared.value.Place.TheVariants as places
use Rattle.py_value.specs.declared.value.ModRef.{ModRef}
use Rattle.py_value.specs.declared.value.Raised.{Raised}
use Rattle.py_value.specs.declared.value.NsState.{NsState}
use Rattle.py_value.specs.declared.value.Value.{Value}
use Rattle.py_value.specs.declared.value.Value.TheVariants as values
use Rattle.machine_events.specs.declared.module.Slot.{Slot}
use Rattle.machine_events.specs.declared.module.Slot.TheVariants as slots
use Rattle.base_spelling.specs.Numbers.{number_in}
use Rattle.base_spelling.specs.Candidates.{begins_with_quote}
use Rattle.base_spelling.specs.Read.{text_in}
use Rattle.trace_fields.specs.Fields.{small_number_in, any_name_in}
use Rattle.trace_fields.specs.Parts.{between, two_in, three_in, listed}
use Rattle.trace_fields.specs.Words.{kind_in, native_in, constant_in, constant_value}

-- a number from -2 ^ 127 to 2 ^ 127 - 1
abbrev pub fits_i128 : ℤ → Bool
fits_i128 (pos n) = nat_lt n (2 ^ 127)
fits_i128 (negsuc n) = nat_lt n (2 ^ 127)

-- the number, if it is written so
abbrev pub written_so : ℤ → List ℕ → Option ℤ
written_so n field = if bytes_eq (signed_decimal n) field then Some n else None

-- a number from -2 ^ 127 to 2 ^ 127 - 1 in its one spelling: no leading zeros, and `-` before a negative one
unfoldable pub signed_in : List ℕ → Option ℤ
signed_in field = if fits_i128 (signed_digits_value 10 field) then written_so (signed_digits_value 10 field) field else None

-- a file as a text, `builtin`, or `namespace`
abbrev pub file_in : List ℕ → Option Place
file_in field = option_map places.File (text_in field)

-- what begins with a quote can be a file alone; else there are two words
abbrev pub place_in : List ℕ → Option Place
place_in field =
    if begins_with_quote field then file_in field
    else if bytes_eq field (codes "builtin") then Some places.BuiltIn
    else if bytes_eq field (codes "namespace") then Some places.Namespace
    else None

-- `module(MID,NAME,PLACE)`
abbrev pub module_of : List ℕ × List ℕ × List ℕ → Option ModRef
module_of p = option_and_then (λ mid. option_and_then (λ name. option_map (λ place. record { mid = mid; name = name; place = place }) (place_in p.2)) (any_name_in p.1)) (small_number_in p.0)

-- three pieces in `module(..)`, each of which holds its part
unfoldable pub module_in : List ℕ → Option ModRef
module_in field = option_and_then module_of (three_in (codes "module(") field)

-- a text, or `-` where there is none
abbrev pub text_or_dash_in : List ℕ → Option (Option (List ℕ))
text_or_dash_in field = if bytes_eq field (codes "-") then Some None else option_map Some (text_in field)

-- `error(K,TEXT,NAME)`
abbrev pub error_of : List ℕ × List ℕ × List ℕ → Option Raised
error_of p = option_and_then (λ kind. option_and_then (λ text. option_map (λ name. record { kind = kind; text = text; name = name }) (text_or_dash_in p.2)) (text_in p.1)) (kind_in p.0)

-- three pieces in `error(..)`, each of which holds its part
unfoldable pub error_in : List ℕ → Option Raised
error_in field = option_and_then error_of (three_in (codes "error(") field)

-- `func(L,I,NAME)`
abbrev pub function_of : List ℕ × List ℕ × List ℕ → Option Value
function_of p = option_and_then (λ load. option_and_then (λ index. option_map (λ name. values.Func load index name) (any_name_in p.2)) (small_number_in p.1)) (small_number_in p.0)

-- three pieces in `func(..)`, each of which holds its part
abbrev pub function_in : List ℕ → Option Value
function_in field = option_and_then function_of (three_in (codes "func(") field)

-- `native(NAME)` and `kind(K)`
abbrev pub native_value_in : List ℕ → Option Value
native_value_in field = option_map values.Native (option_and_then native_in (between (codes "native(") 41 field))

-- `kind(K)`: a kind of error as a value
abbrev pub kind_value_in : List ℕ → Option Value
kind_value_in field = option_map values.Kind (option_and_then kind_in (between (codes "kind(") 41 field))

-- a module is spelled the same as a value and elsewhere
abbrev pub module_value_in : List ℕ → Option Value
module_value_in field = option_map values.Module (module_in field)

-- an error is spelled the same as a value and elsewhere
abbrev pub error_value_in : List ℕ → Option Value
error_value_in field = option_map values.Error (error_in field)

-- a text is spelled the same as a value and elsewhere
abbrev pub text_value_in : List ℕ → Option Value
text_value_in field = option_map values.Text (text_in field)

-- a number as a value, from -2 ^ 127 to 2 ^ 127 - 1
abbrev pub number_value_in : List ℕ → Option Value
number_value_in field = option_map values.Int (signed_in field)

-- what begins with a word
abbrev pub called_in : List ℕ → Option Value
called_in field =
    option_or (native_value_in field)
    (option_or (kind_value_in field) (option_or (function_in field) (option_or (module_value_in field) (error_value_in field))))

-- a word that is a value by itself, or what begins with a word and has parts
abbrev pub worded_in : List ℕ → Option Value
worded_in field = option_or (option_map constant_value (constant_in field)) (called_in field)

-- a number begins with `-` (45) or with a digit
abbrev pub begins_number : ℕ → Bool
begins_number b = b == 45 || is_ascii_digit b

-- a value that is no list and no tuple
unfoldable pub plain_in : List ℕ → Option Value
plain_in [] = None
plain_in (b ∷ bs) =
    if b == 34 then text_value_in (b ∷ bs) else if begins_number b then number_value_in (b ∷ bs) else worded_in (b ∷ bs)

-- a value whose items, where it is a list or a tuple, are read by `read`
unfoldable pub nested : (List ℕ → Option Value) → List ℕ → Option Value
nested read [] = None
nested read (b ∷ bs) =
    if b == 91 then option_map values.List (listed (codes "[") 93 read (b ∷ bs))
    else if b == 40 then option_map values.Tuple (listed (codes "(") 41 read (b ∷ bs))
    else plain_in (b ∷ bs)

-- a value in which so many lists and tuples stand inside one another at most
unfoldable pub value_in : ℕ → List ℕ → Option Value
value_in zero field = plain_in field
value_in (suc n) field = nested (value_in n) field

-- the items of a list or a tuple, in each of which so many lists and tuples stand inside one another at most
abbrev pub listed_values : ℕ → List ℕ → ℕ → List ℕ → Option (List Value)
listed_values n front last field = listed front last (value_in n) field

-- values in brackets, and texts in brackets
abbrev pub values_in : List ℕ → Option (List Value)
values_in field = listed (codes "[") 93 (value_in 64) field

-- texts in brackets: `[TEXT,..]`
abbrev pub texts_in : List ℕ → Option (List (List ℕ))
texts_in field = listed (codes "[") 93 text_in field

-- `file(TEXT)`, `package(TEXT,[..])`, `namespace([..])`
abbrev pub source_kind_in : List ℕ → Option SpecKind
source_kind_in field = option_map kinds.Source (option_and_then text_in (between (codes "file(") 41 field))

-- the file of a package as a text, and its search path as texts in brackets
abbrev pub package_of : List ℕ × List ℕ → Option SpecKind
package_of p = option_and_then (λ file. option_map (λ path. kinds.Package file path) (texts_in p.1)) (text_in p.0)

-- `package(TEXT,[..])`
abbrev pub package_kind_in : List ℕ → Option SpecKind
package_kind_in field = option_and_then package_of (two_in (codes "package(") field)

-- `namespace([..])`
abbrev pub namespace_kind_in : List ℕ → Option SpecKind
namespace_kind_in field = option_map kinds.Namespace (option_and_then texts_in (between (codes "namespace(") 41 field))

-- one of the three; there is no word for a spec that is built in
unfoldable pub spec_kind_in : List ℕ → Option SpecKind
spec_kind_in field = option_or (source_kind_in field) (option_or (package_kind_in field) (namespace_kind_in field))

-- a slot that has a module is spelled as the module
abbrev pub module_slot_in : List ℕ → Option Slot
module_slot_in field = option_map slots.Module (module_in field)

-- `absent`, `halted`, or a module
unfoldable pub slot_in : List ℕ → Option Slot
slot_in field = if bytes_eq field (codes "absent") then Some slots.Absent else if bytes_eq field (codes "halted") then Some slots.Halted else module_slot_in field

-- `ns([..],EPOCH,[..])`
abbrev pub state_of : List ℕ × List ℕ × List ℕ → Option NsState
state_of p = option_and_then (λ parent. option_and_then (λ epoch. option_map (λ portions. record { parent_path = parent; epoch = epoch; portions = portions }) (texts_in p.2)) (number_in p.1)) (values_in p.0)

-- three pieces in `ns(..)`, each of which holds its part
unfoldable pub state_in : List ℕ → Option NsState
state_in field = option_and_then state_of (three_in (codes "ns(") field)

-- a place in the search path, or `-` for its end; a load, or `-` where there is none
abbrev pub place_in_path_in : List ℕ → Option (Option ℤ)
place_in_path_in field = if bytes_eq field (codes "-") then Some None else option_map Some (signed_in field)

-- the number of a load, or `-` where there is none
abbrev pub load_in : List ℕ → Option (Option ℕ)
load_in field = if bytes_eq field (codes "-") then Some None else option_map Some (small_number_in field)

-- the tree path that a text is, its parts joined by `/` (47)
abbrev pub parts_of : List ℕ → Path
parts_of text = slice_split (λ b. b == 47) text

-- the empty text is the root; else each part must be one of a tree path, so `.` is no spelling of the root
abbrev pub tree_path_of : List ℕ → Option Path
tree_path_of [] = Some []
tree_path_of (b ∷ bs) = if list_all is_part (parts_of (b ∷ bs)) then Some (parts_of (b ∷ bs)) else None

-- a text that spells a tree path
unfoldable pub tree_path_in : List ℕ → Option Path
tree_path_in field = option_and_then tree_path_of (text_in field)
