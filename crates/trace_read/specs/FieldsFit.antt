-- What a trace can hold: numbers in the range of their type, texts that are UTF-8, names that
-- are dotted names, and values with at most 64 lists and tuples inside one another. Each
-- value of the program's types is so, but that a spec which is built in stands in no trace.
use Rattle.std.specs.Prelude.{ℕ, ℤ, ◌^◌, List, Bool, true, false, nat_lt, nat_le, ◌&&◌, Option, Some, None}
use Rattle.std.specs.List.{list_all}
use Rattle.std.specs.Str.{is_utf8}
use Rattle.base_types.specs.Path.{Path, is_part, joined}
use Rattle.spec_core.specs.Identifiers.{is_dotted}
use Rattle.spec_core.specs.declared.spec.SpecKind.{SpecKind}
use Rattle.spec_core.specs.declared.spec.SpecKind.TheVariants as kinds
use Rattle.spec_core.specs.declared.spec.Spec.{Spec}
use Rattle.py_value.specs.declared.value.Place.{Place}
use Rattle.py_value.specs.declared.value.Place.TheVariants as places
use Rattle.py_value.specs.declared.value.ModRef.{ModRef}
use Rattle.py_value.specs.declared.value.Raised.{Raised}
use Rattle.py_value.specs.declared.value.NsState.{NsState}
use Rattle.py_value.specs.declared.value.Value.{Value}
use Rattle.py_value.specs.declared.value.Value.TheOpen.{Value-F}
use Rattle.py_value.specs.declared.value.Value.TheFolds.{fold-Value}
use Rattle.py_value.specs.Measures.{nesting_of}
use Rattle.machine_events.specs.declared.module.Slot.{Slot}
use Rattle.machine_events.specs.declared.module.Slot.TheVariants as slots
use Rattle.trace_fields.specs.Values.{fits_i128}

-- a dotted name, of bytes that are UTF-8
abbrev pub name_fits : List ℕ → Bool
name_fits name = is_utf8 name && is_dotted name

-- where there is a text, it is UTF-8
abbrev pub option_fits : Option (List ℕ) → Bool
option_fits None = true
option_fits (Some text) = is_utf8 text

-- a file is a text that is UTF-8; the other places have no parts
abbrev pub place_fits : Place → Bool
place_fits (places.File file) = is_utf8 file
place_fits places.BuiltIn = true
place_fits places.Namespace = true

-- a number below 2 ^ 32, and a name that is UTF-8: it need not be a dotted name, as it may stand as a text
abbrev pub module_fits : ModRef → Bool
module_fits m = nat_lt m.mid (2 ^ 32) && (is_utf8 m.name && place_fits m.place)

-- the text of an error is UTF-8, and so is its name, where it has one
abbrev pub error_fits : Raised → Bool
error_fits error = is_utf8 error.text && option_fits error.name

-- one layer, with whether an item fits in its place: numbers are in the range of their type, and texts are UTF-8
abbrev pub value_fits_at : Value-F Bool → Bool
value_fits_at (Value-F.Int n) = fits_i128 n
value_fits_at (Value-F.Text text) = is_utf8 text
value_fits_at (Value-F.List items) = list_all (λ fits. fits) items
value_fits_at (Value-F.Tuple items) = list_all (λ fits. fits) items
value_fits_at (Value-F.Func load index name) = nat_lt load (2 ^ 32) && (nat_lt index (2 ^ 32) && is_utf8 name)
value_fits_at (Value-F.Module m) = module_fits m
value_fits_at (Value-F.Error error) = error_fits error
value_fits_at _ = true

-- all parts of a value fit, down to the values without items
abbrev pub parts_fit : Value → Bool
parts_fit = fold-Value Bool value_fits_at

-- all parts fit, and at most 64 lists and tuples stand inside one another
abbrev pub value_fits : Value → Bool
value_fits value = parts_fit value && nat_le (nesting_of value) 64

-- each of the values fits by itself
abbrev pub values_fit : List Value → Bool
values_fit values = list_all value_fits values

-- each of the texts is UTF-8
abbrev pub texts_fit : List (List ℕ) → Bool
texts_fit texts = list_all is_utf8 texts

-- files and search paths are texts that are UTF-8; a spec that is built in stands in no trace
abbrev pub spec_kind_fits : SpecKind → Bool
spec_kind_fits kinds.Builtin = false
spec_kind_fits (kinds.Source file) = is_utf8 file
spec_kind_fits (kinds.Package file path) = is_utf8 file && texts_fit path
spec_kind_fits (kinds.Namespace path) = texts_fit path

-- a slot without a module fits, and else its module must
abbrev pub slot_fits : Slot → Bool
slot_fits slots.Absent = true
slot_fits slots.Halted = true
slot_fits (slots.Module m) = module_fits m

-- the values of the path of the parent fit, the epoch is below 2 ^ 64, and the portions are UTF-8
abbrev pub state_fits : NsState → Bool
state_fits state = values_fit state.parent_path && (nat_lt state.epoch (2 ^ 64) && texts_fit state.portions)

-- each part is one of a tree path, and the whole text is UTF-8
abbrev pub tree_path_fits : Path → Bool
tree_path_fits path = list_all is_part path && is_utf8 (joined path)

-- the end of the search path fits, and any number from -2 ^ 127 to 2 ^ 127 - 1
abbrev pub place_at_fits : Option ℤ → Bool
place_at_fits None = true
place_at_fits (Some at) = fits_i128 at

-- where there is a load, its number is below 2 ^ 32
abbrev pub load_fits : Option ℕ → Bool
load_fits None = true
load_fits (Some load) = nat_lt load (2 ^ 32)
