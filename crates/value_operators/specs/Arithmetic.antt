-- The operators that compute a value from two, and unary minus (Language Reference 6.6, 6.7).
use Rattle.std.specs.Prelude.{ℕ, zero, suc, List, [], ◌++◌, codes, if◌then◌else◌, ℤ, pos, negsuc, neg_ℤ, ◌+ℤ◌, ◌-ℤ◌, ◌*ℤ◌, Option, Some, None, ◌||◌}
use Rattle.std.specs.Int.{int_div_euclid, int_rem_euclid}
use Rattle.py_value.specs.declared.kind.Kind.TheVariants as kinds
use Rattle.py_value.specs.declared.value.Value.{Value, out-Value}
use Rattle.py_value.specs.declared.value.Value.TheVariants as values
use Rattle.py_value.specs.declared.value.Value.TheOpen.{Value-F}
use Rattle.py_value.specs.declared.operator.Applied.{Applied}
use Rattle.py_value.specs.declared.operator.BinOp.{BinOp}
use Rattle.py_value.specs.declared.operator.BinOp.TheVariants as ops
use Rattle.py_value.specs.Names.{type_name}
use Rattle.value_operators.specs.Outcomes.{raises, type_error, not_in_profile, is_special, number_of, limited, fitting, number}

-- the operator as it is written
abbrev pub written : BinOp → List ℕ
written ops.Add = codes "+"
written ops.Sub = codes "-"
written ops.Mul = codes "*"
written ops.FloorDiv = codes "//"
written ops.Mod = codes "%"

-- The quotient rounded down, and the remainder with the divisor's sign. By a divisor above 0 these
-- are Euclid's; a divisor below 0 turns both signs.
abbrev pub floor_quotient : ℤ → ℤ → ℤ
floor_quotient a (pos b) = int_div_euclid a (pos b)
floor_quotient a (negsuc b) = int_div_euclid (neg_ℤ a) (pos (suc b))

-- the remainder that goes with that quotient: 0, or of the divisor's sign (Language Reference 6.7)
abbrev pub floor_remainder : ℤ → ℤ → ℤ
floor_remainder a (pos b) = int_rem_euclid a (pos b)
floor_remainder a (negsuc b) = neg_ℤ (int_rem_euclid (neg_ℤ a) (pos (suc b)))

-- the error of a division by 0, of `//` and `%` alike (Language Reference 6.7)
abbrev pub by_zero : Applied
by_zero = raises kinds.ZeroDivisionError (codes "division by zero")

-- `//` of two numbers: the quotient rounded down; the least number divided by -1 is past 128 bits
abbrev pub divided : ℤ → ℤ → Applied
divided a (pos zero) = by_zero
divided a b = number (fitting (floor_quotient a b))

-- `%` of two numbers: the remainder that goes with the quotient of `//`
abbrev pub remainder : ℤ → ℤ → Applied
remainder a (pos zero) = by_zero
remainder a b = number (fitting (floor_remainder a b))

-- two numbers
abbrev pub calculated : BinOp → ℤ → ℤ → Applied
calculated ops.Add a b = number (fitting (a +ℤ b))
calculated ops.Sub a b = number (fitting (a -ℤ b))
calculated ops.Mul a b = number (fitting (a *ℤ b))
calculated ops.FloorDiv a b = divided a b
calculated ops.Mod a b = remainder a b

-- the TypeError where the operator is not for values of these two types, which it names
abbrev pub unsupported : BinOp → Value → Value → Applied
unsupported op left right =
    type_error (codes "unsupported operand type(s) for " ++ written op ++ codes ": '" ++ type_name left ++ codes "' and '" ++ type_name right ++ codes "'")

-- two texts, lists or tuples joined
abbrev pub joined : Value-F Value → Value-F Value → Applied → Applied
joined (Value-F.Text a) (Value-F.Text b) otherwise = limited (values.Text (a ++ b))
joined (Value-F.List a) (Value-F.List b) otherwise = limited (values.List (a ++ b))
joined (Value-F.Tuple a) (Value-F.Tuple b) otherwise = limited (values.Tuple (a ++ b))
joined left right otherwise = otherwise

-- the text as often as the number says, one behind the other
abbrev pub copies : ℕ → List ℕ → List ℕ
copies zero text = []
copies (suc n) text = copies n text ++ text

-- as often as the number says, and not at all at 0 or less
abbrev pub repeated_text : List ℕ → ℤ → Applied
repeated_text text (pos n) = limited (values.Text (copies n text))
repeated_text text (negsuc n) = limited (values.Text [])

-- a number and something else, in either order: a text is repeated, and a list or tuple is not
abbrev pub times : Value-F Value → ℤ → Applied → Applied
times (Value-F.Text text) n otherwise = repeated_text text n
times (Value-F.List items) n otherwise = not_in_profile
times (Value-F.Tuple items) n otherwise = not_in_profile
times value n otherwise = otherwise

-- `*` where just one operand is a number: what the other one becomes; two numbers, or none, have the other outcome
abbrev pub repeated : Value → Value → Option ℤ → Option ℤ → Applied → Applied
repeated left right (Some n) None otherwise = times (out-Value right) n otherwise
repeated left right None (Some n) otherwise = times (out-Value left) n otherwise
repeated left right _ _ otherwise = otherwise

-- the formatting of texts is left out
abbrev pub formatted : Value-F Value → Applied → Applied
formatted (Value-F.Text text) otherwise = not_in_profile
formatted left otherwise = otherwise

-- where not both are numbers
abbrev pub combined : BinOp → Value → Value → Applied
combined ops.Add left right = joined (out-Value left) (out-Value right) (unsupported ops.Add left right)
combined ops.Mul left right = repeated left right (number_of left) (number_of right) (unsupported ops.Mul left right)
combined ops.Mod left right = formatted (out-Value left) (unsupported ops.Mod left right)
combined ops.Sub left right = unsupported ops.Sub left right
combined ops.FloorDiv left right = unsupported ops.FloorDiv left right

-- two numbers are calculated with; any other two are combined by what they are
abbrev pub by_numbers : BinOp → Value → Value → Option ℤ → Option ℤ → Applied
by_numbers op left right (Some a) (Some b) = calculated op a b
by_numbers op left right _ _ = combined op left right

-- an operator between two values (Language Reference 6.7); what stands for something in the machine is no operand
abbrev pub binary : BinOp → Value → Value → Applied
binary op left right =
    if is_special left || is_special right then not_in_profile
    else by_numbers op left right (number_of left) (number_of right)

-- `+=` changes a list in place in Python, and is left out for lists
abbrev pub augmented_at : BinOp → Value-F Value → Applied → Applied
augmented_at ops.Add (Value-F.List items) otherwise = not_in_profile
augmented_at op left otherwise = otherwise

-- what an augmented assignment computes: as the operator does, but for `+=` on a list (Language Reference 7.2.1)
abbrev pub augmented : BinOp → Value → Value → Applied
augmented op left right = augmented_at op (out-Value left) (binary op left right)

-- a number changes its sign, where 128 bits hold that; any other value has no unary minus
abbrev pub negated_number : Value → Option ℤ → Applied
negated_number value (Some n) = number (fitting (neg_ℤ n))
negated_number value None = type_error (codes "bad operand type for unary -: '" ++ type_name value ++ codes "'")

-- unary minus (Language Reference 6.6); what stands for something in the machine is no operand
abbrev pub negated : Value → Applied
negated value = if is_special value then not_in_profile else negated_number value (number_of value)
