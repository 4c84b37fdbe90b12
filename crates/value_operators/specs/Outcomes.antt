-- What every operator speaks of: the errors that it raises, and the limits on what it makes.
use Rattle.std.specs.Prelude.{ℕ, ◌^◌, List, length, None, codes, Bool, true, false, nat_lt, if◌then◌else◌, ℤ, pos, negsuc, Option, Some}
use Rattle.std.specs.List.{list_all}
use Rattle.py_value.specs.declared.kind.Kind.{Kind}
use Rattle.py_value.specs.declared.kind.Kind.TheVariants as kinds
use Rattle.py_value.specs.declared.value.Value.{Value, out-Value}
use Rattle.py_value.specs.declared.value.Value.TheVariants as values
use Rattle.py_value.specs.declared.value.Value.TheOpen.{Value-F}
use Rattle.py_value.specs.declared.value.Value.TheFolds.{fold-Value}
use Rattle.py_value.specs.declared.operator.Applied.{Applied}
use Rattle.py_value.specs.declared.operator.Applied.TheVariants as applied
use Rattle.py_value.specs.Measures.{nesting_of}

-- an error of this kind and text, without a name
abbrev pub raises : Kind → List ℕ → Applied
raises kind text = applied.Raised (record { kind = kind; text = text; name = None })

-- the error of an operation that is not for values of such types
abbrev pub type_error : List ℕ → Applied
type_error text = raises kinds.TypeError text

-- the error of what this language leaves out, or of what is past its limits; no `except` takes it
abbrev pub profile_error : List ℕ → Applied
profile_error text = raises kinds.ProfileError text

-- the text of each refusal that names no other
abbrev pub not_in_profile : Applied
not_in_profile = profile_error (codes "not in the profile")

-- a value that stands for something in the machine is no operand
abbrev pub is_special_at : Value-F Value → Bool
is_special_at Value-F.SysModules = true
is_special_at Value-F.SysPath = true
is_special_at Value-F.NsPath = true
is_special_at _ = false

-- whether the value itself stands for something in the machine; one that holds such a value does not
abbrev pub is_special : Value → Bool
is_special value = is_special_at (out-Value value)

-- what holds, at no depth, an error or a value that stands for something in the machine
abbrev pub is_plain_at : Value-F Bool → Bool
is_plain_at (Value-F.Error error) = false
is_plain_at Value-F.SysModules = false
is_plain_at Value-F.SysPath = false
is_plain_at Value-F.NsPath = false
is_plain_at (Value-F.List are_plain) = list_all (λ b. b) are_plain
is_plain_at (Value-F.Tuple are_plain) = list_all (λ b. b) are_plain
is_plain_at _ = true

-- whether the value neither is nor holds, at any depth, an error or a special value
abbrev pub is_plain : Value → Bool
is_plain = fold-Value Bool is_plain_at

-- a Bool counts as 0 or 1 (Language Reference 3.2, "Booleans")
abbrev pub bool_number : Bool → ℤ
bool_number true = pos 1
bool_number false = pos 0

-- only a Bool and an Int are numbers; a text is none, whatever it spells
abbrev pub number_at : Value-F Value → Option ℤ
number_at (Value-F.Bool b) = Some (bool_number b)
number_at (Value-F.Int n) = Some n
number_at _ = None

-- the number that a value counts as for an operator or as an index, if it is one
abbrev pub number_of : Value → Option ℤ
number_of value = number_at (out-Value value)

-- a text has at most 65,536 bytes, a list or tuple at most 4,096 items, and the nesting is at most 64
abbrev pub is_long_text : Value-F Value → Bool
is_long_text (Value-F.Text text) = nat_lt 65536 (length text)
is_long_text _ = false

-- whether it has more than 4,096 items of its own; what these hold is not counted
abbrev pub is_long_list : Value-F Value → Bool
is_long_list (Value-F.List items) = nat_lt 4096 (length items)
is_long_list (Value-F.Tuple items) = nat_lt 4096 (length items)
is_long_list _ = false

-- the value, or what is raised where it is beyond the limits
abbrev pub limited : Value → Applied
limited value =
    if is_long_text (out-Value value) then profile_error (codes "text too long")
    else if is_long_list (out-Value value) then profile_error (codes "list too long")
    else if nat_lt 64 (nesting_of value) then profile_error (codes "list too deep")
    else applied.Value value

-- a number that 128 bits hold
abbrev pub fitting : ℤ → Option ℤ
fitting (pos n) = if nat_lt n (2 ^ 127) then Some (pos n) else None
fitting (negsuc n) = if nat_lt n (2 ^ 127) then Some (negsuc n) else None

-- a number that fits is the value, and one that does not is past the limits
abbrev pub number : Option ℤ → Applied
number (Some n) = applied.Value (values.Int n)
number None = profile_error (codes "number past 128 bits")

-- the answer of a test is a Bool
abbrev pub truth_value : Bool → Applied
truth_value b = applied.Value (values.Bool b)
