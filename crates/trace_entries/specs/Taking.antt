-- What the next field holds, and the cause where it holds nothing of the kind.
use Rattle.std.specs.Prelude.{ℕ, ℤ, List, [], ◌∷◌, codes, Bool, true, false, Option, Result, Ok}
use Rattle.std.specs.Option.{ok_or}
use Rattle.base_types.specs.Path.{Path}
use Rattle.spec_core.specs.declared.spec.SpecKind.{SpecKind}
use Rattle.py_value.specs.declared.value.ModRef.{ModRef}
use Rattle.py_value.specs.declared.value.Raised.{Raised}
use Rattle.py_value.specs.declared.value.NsState.{NsState}
use Rattle.py_value.specs.declared.value.Value.{Value}
use Rattle.machine_events.specs.declared.module.Slot.{Slot}
use Rattle.base_spelling.specs.Numbers.{number_in}
use Rattle.base_spelling.specs.Read.{text_in, source_in}
use Rattle.trace_fields.specs.declared.refusal.Cause.{Cause}
use Rattle.trace_fields.specs.declared.refusal.Cause.TheVariants as cause
use Rattle.trace_fields.specs.Reading.{Fields, ◌>>=◌, taken}
use Rattle.trace_fields.specs.Fields.{small_number_in, name_in, any_name_in, variable_in, lookup}
use Rattle.trace_fields.specs.Values.{place_in_path_in, load_in, module_in, error_in, slot_in, value_in, values_in, texts_in, spec_kind_in, state_in, tree_path_in}

-- what the front fields hold, with the fields behind them; or why the first refused one holds nothing
abbrev pub Taken : Type 0 → Type 0
Taken X = Result (X × Fields) Cause

-- what a field holds, with the fields behind it; where it holds nothing, the cause
abbrev pub held_or : {X : Type 0} → Cause → Option X → Fields → Taken X
held_or why held rest = ok_or held why >>= λ x. Ok (x, rest)

-- only a number could stand there
abbrev pub small_number_at : Fields → Taken ℕ
small_number_at fields = taken cause.Number small_number_in fields

-- a number below 2 ^ 64; the one above is below 2 ^ 32
abbrev pub number_at : Fields → Taken ℕ
number_at fields = taken cause.Number number_in fields

-- only a dotted name
abbrev pub name_at : Fields → Taken (List ℕ)
name_at fields = taken cause.Name name_in fields

-- only a text, or a source, or a tree path as a text
abbrev pub text_at : Fields → Taken (List ℕ)
text_at fields = taken cause.Escape text_in fields

-- a source is a text where its bytes are UTF-8, and else `hex(..)`
abbrev pub source_at : Fields → Taken (List ℕ)
source_at fields = taken cause.Escape source_in fields

-- a tree path is a text, its parts joined by `/`
abbrev pub tree_path_at : Fields → Taken Path
tree_path_at fields = taken cause.Escape tree_path_in fields

-- all other kinds of fields
abbrev pub any_name_at : Fields → Taken (List ℕ)
any_name_at fields = taken cause.Fields any_name_in fields

-- a variable's name: bare where it is an identifier, and else a text
abbrev pub variable_at : Fields → Taken (List ℕ)
variable_at fields = taken cause.Fields variable_in fields

-- a place in the search path: a number, or `-` for its end
abbrev pub place_at : Fields → Taken (Option ℤ)
place_at fields = taken cause.Fields place_in_path_in fields

-- the number of a load, or `-` where there is none
abbrev pub load_at : Fields → Taken (Option ℕ)
load_at fields = taken cause.Fields load_in fields

-- `module(MID,NAME,PLACE)`
abbrev pub module_at : Fields → Taken ModRef
module_at fields = taken cause.Fields module_in fields

-- `error(KIND,TEXT,NAME)`
abbrev pub error_at : Fields → Taken Raised
error_at fields = taken cause.Fields error_in fields

-- `absent`, `halted`, or a module
abbrev pub slot_at : Fields → Taken Slot
slot_at fields = taken cause.Fields slot_in fields

-- a value with at most 64 lists and tuples inside one another; one that nests deeper is none
abbrev pub value_at : Fields → Taken Value
value_at fields = taken cause.Fields (value_in 64) fields

-- values in brackets, in each of which at most 64 lists and tuples stand inside one another
abbrev pub values_at : Fields → Taken (List Value)
values_at fields = taken cause.Fields values_in fields

-- texts in brackets
abbrev pub texts_at : Fields → Taken (List (List ℕ))
texts_at fields = taken cause.Fields texts_in fields

-- `file(..)`, `package(..)` or `namespace(..)`: a spec that is built in stands in no trace
abbrev pub spec_kind_at : Fields → Taken SpecKind
spec_kind_at fields = taken cause.Fields spec_kind_in fields

-- `ns([v,..],EPOCH,[TEXT,..])`
abbrev pub state_at : Fields → Taken NsState
state_at fields = taken cause.Fields state_in fields

-- one of two words
abbrev pub flag_in : List ℕ → List ℕ → List ℕ → Option Bool
flag_in on off field = lookup field ((on, true) ∷ (off, false) ∷ [])

-- `raw`, as by the module's own code, is never answered `sleeping`; `soft`, as by an attribute, may be
abbrev pub raw_at : Fields → Taken Bool
raw_at fields = taken cause.Fields (flag_in (codes "raw") (codes "soft")) fields

-- a body ended well (`good`), or did not (`bad`)
abbrev pub good_at : Fields → Taken Bool
good_at fields = taken cause.Fields (flag_in (codes "good") (codes "bad")) fields

-- a module without the variable was initialising (`init`), or was not (`plain`)
abbrev pub init_at : Fields → Taken Bool
init_at fields = taken cause.Fields (flag_in (codes "init") (codes "plain")) fields

-- `yes` where a name stands in the listing, and else `no`
abbrev pub yes_at : Fields → Taken Bool
yes_at fields = taken cause.Fields (flag_in (codes "yes") (codes "no")) fields
