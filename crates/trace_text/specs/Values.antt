-- How a trace spells values, places, errors and what else stands in a field. The format is this project's own. No blank
-- stands in them but inside quotes.
use Rattle.std.specs.Prelude.{ℕ, zero, suc, ℤ, List, [], ◌++◌, map, codes, Bool, true, false, Option, Some, None, if◌then◌else◌}
use Rattle.std.specs.List.{join_by}
use Rattle.std.specs.Fmt.{decimal, signed_decimal}
use Rattle.std.specs.Str.{chars}
use Rattle.spec_core.specs.Identifiers.{is_identifier, is_dotted}
use Rattle.spec_core.specs.declared.spec.SpecKind.{SpecKind}
use Rattle.spec_core.specs.declared.spec.SpecKind.TheVariants as kinds
use Rattle.py_value.specs.declared.value.Place.{Place}
use Rattle.py_value.specs.declared.value.Place.TheVariants as places
use Rattle.py_value.specs.declared.value.ModRef.{ModRef}
use Rattle.py_value.specs.declared.value.Raised.{Raised}
use Rattle.py_value.specs.declared.value.NsState.{NsState}
use Rattle.py_value.specs.declared.value.Value.{Value}
use Rattle.py_value.specs.declared.value.Value.TheOpen.{Value-F}
use Rattle.py_value.specs.declared.value.Value.TheFolds.{fold-Value}
use Rattle.py_value.specs.Names.{kind_name, native_name}
use Rattle.machine_events.specs.declared.module.Slot.{Slot}
use Rattle.machine_events.specs.declared.module.Slot.TheVariants as slots
use Rattle.base_spelling.specs.Spelling.{quoted}

-- commas between, and no blanks
abbrev pub with_commas : List (List ℕ) → List ℕ
with_commas texts = join_by (λ text. text) (codes ",") texts

-- what stands before the n-th item, from 0
abbrev pub comma_before : ℕ → List ℕ
comma_before zero = []
comma_before (suc n) = codes ","

-- a name stands bare where it is a dotted name, and else as a text
abbrev pub name_text : List ℕ → List ℕ
name_text name = if is_dotted name then name else quoted name

-- a variable's name stands bare where it is an identifier, and else as a text
abbrev pub variable_text : List ℕ → List ℕ
variable_text name = if is_identifier (chars name) then name else quoted name

-- texts in brackets, as `["a","b"]`
abbrev pub texts_text : List (List ℕ) → List ℕ
texts_text texts = (codes "[" ++ with_commas (map quoted texts)) ++ codes "]"

-- a file as a text, `builtin`, or `namespace`
abbrev pub place_text : Place → List ℕ
place_text (places.File file) = quoted file
place_text places.BuiltIn = codes "builtin"
place_text places.Namespace = codes "namespace"

-- `module(MID,NAME,PLACE)`
abbrev pub module_text : ModRef → List ℕ
module_text m = codes "module(" ++ decimal m.mid ++ codes "," ++ name_text m.name ++ codes "," ++ place_text m.place ++ codes ")"

-- a text, or `-` where there is none
abbrev pub text_or_dash : Option (List ℕ) → List ℕ
text_or_dash None = codes "-"
text_or_dash (Some text) = quoted text

-- `error(K,TEXT,NAME)`
abbrev pub error_text : Raised → List ℕ
error_text e = codes "error(" ++ kind_name e.kind ++ codes "," ++ quoted e.text ++ codes "," ++ text_or_dash e.name ++ codes ")"

-- `func(L,I,NAME)`
abbrev pub function_text : ℕ → ℕ → List ℕ → List ℕ
function_text load index name = codes "func(" ++ decimal load ++ codes "," ++ decimal index ++ codes "," ++ name_text name ++ codes ")"

-- the two truth values, as Python writes them
abbrev pub bool_text : Bool → List ℕ
bool_text true = codes "True"
bool_text false = codes "False"

-- a list: its items in brackets, as `[1,2]`; the empty one is `[]`
abbrev pub in_brackets : List (List ℕ) → List ℕ
in_brackets texts = (codes "[" ++ with_commas texts) ++ codes "]"

-- a tuple: its items in parentheses, as `(1,2)`; no comma stands behind a single one, unlike in Python
abbrev pub in_parentheses : List (List ℕ) → List ℕ
in_parentheses texts = (codes "(" ++ with_commas texts) ++ codes ")"

-- one layer, with the text of each item in its place
abbrev pub value_at : Value-F (List ℕ) → List ℕ
value_at Value-F.Nothing = codes "None"
value_at (Value-F.Bool b) = bool_text b
value_at (Value-F.Int n) = signed_decimal n
value_at (Value-F.Text text) = quoted text
value_at (Value-F.List texts) = in_brackets texts
value_at (Value-F.Tuple texts) = in_parentheses texts
value_at (Value-F.Func load index name) = function_text load index name
value_at (Value-F.Native native) = codes "native(" ++ native_name native ++ codes ")"
value_at (Value-F.Kind kind) = codes "kind(" ++ kind_name kind ++ codes ")"
value_at (Value-F.Module held) = module_text held
value_at (Value-F.Error error) = error_text error
value_at Value-F.SysModules = codes "sysmodules"
value_at Value-F.SysPath = codes "syspath"
value_at Value-F.NsPath = codes "nspath"

-- a list or a tuple is spelled by the texts of its items, down to the values without items
abbrev pub value_text : Value → List ℕ
value_text = fold-Value (List ℕ) value_at

-- values in brackets, as the items of a list are
abbrev pub values_text : List Value → List ℕ
values_text values = in_brackets (map value_text values)

-- what a spec has behind its name: `file(TEXT)`, `package(TEXT,[..])`
-- or `namespace([..])`. A spec that is built in stands in no trace.
abbrev pub spec_text : SpecKind → List ℕ
spec_text kinds.Builtin = codes "builtin"
spec_text (kinds.Source file) = codes "file(" ++ quoted file ++ codes ")"
spec_text (kinds.Package file path) = codes "package(" ++ quoted file ++ codes "," ++ texts_text path ++ codes ")"
spec_text (kinds.Namespace path) = codes "namespace(" ++ texts_text path ++ codes ")"

-- `absent`, `halted`, or a module
abbrev pub slot_text : Slot → List ℕ
slot_text slots.Absent = codes "absent"
slot_text slots.Halted = codes "halted"
slot_text (slots.Module m) = module_text m

-- `ns([..],EPOCH,[..])`
abbrev pub state_text : NsState → List ℕ
state_text s = codes "ns(" ++ values_text s.parent_path ++ codes "," ++ decimal s.epoch ++ codes "," ++ texts_text s.portions ++ codes ")"

-- a place in the search path, or `-` for its end
abbrev pub place_in_path : Option ℤ → List ℕ
place_in_path None = codes "-"
place_in_path (Some at) = signed_decimal at

-- a load, or `-` where there is none
abbrev pub load_text : Option ℕ → List ℕ
load_text None = codes "-"
load_text (Some load) = decimal load
