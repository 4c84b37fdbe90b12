-- Laws of the tables.
use Rattle.std.specs.Prelude.{◌≡◌, ◌≢◌, ℕ, ◌≤◌, List, length, true, ℤ, pos, negsuc, ◌+ℤ◌, ◌*ℤ◌, ◌≤ℤ◌, ◌<ℤ◌}
use Rattle.py_value.specs.Kinds.{IsA}
use Rattle.py_value.specs.declared.kind.Kind.{Kind}
use Rattle.py_value.specs.declared.kind.Kind.TheVariants as kinds
use Rattle.py_value.specs.declared.value.Value.{Value}
use Rattle.py_value.specs.declared.value.Value.TheVariants as values
use Rattle.py_value.specs.declared.operator.Applied.TheVariants as applied
use Rattle.py_value.specs.declared.operator.CmpOp.{CmpOp}
use Rattle.py_value.specs.declared.operator.CmpOp.TheVariants as ops
use Rattle.value_operators.specs.Arithmetic.{floor_quotient, floor_remainder}
use Rattle.value_operators.specs.Comparison.{compare}
use Rattle.value_operators.specs.Outcomes.{is_plain}
use Rattle.value_texts.specs.Texts.{str_of}

-- each kind is itself, what is above a kind above is above, and no two kinds are above one another
pub record IsOrder : Type 0 where
  pub itself : (kind : Kind) → IsA kind kind
  pub above : (a b c : Kind) → IsA a b → IsA b c → IsA a c
  pub apart : (a b : Kind) → IsA a b → IsA b a → a ≡ b

-- a ProfileError is no other kind, and no other kind is one
pub record StandsApart : Type 0 where
  pub below : (kind : Kind) → IsA kinds.ProfileError kind → kind ≡ kinds.ProfileError
  pub above : (kind : Kind) → IsA kind kinds.ProfileError → kind ≡ kinds.ProfileError

-- a text within the limit is its own text
abbrev pub TextIsItself : Type 0
TextIsItself = (text : List ℕ) → length text ≤ 65536 → str_of (values.Text text) ≡ applied.Value (values.Text text)

-- a comparison answers True
abbrev pub Holds : CmpOp → Value → Value → Type 0
Holds op a b = compare op a b ≡ applied.Value (values.Bool true)

-- `==` is an equivalence of the values that it compares
pub record EqualIsEquivalence : Type 0 where
  pub itself : (a : Value) → is_plain a ≡ true → Holds ops.Eq a a
  pub turned : (a b : Value) → Holds ops.Eq a b → Holds ops.Eq b a
  pub chained : (a b c : Value) → Holds ops.Eq a b → Holds ops.Eq b c → Holds ops.Eq a c

-- `<` is transitive
abbrev pub LessIsTransitive : Type 0
LessIsTransitive = (a b c : Value) → Holds ops.Lt a b → Holds ops.Lt b c → Holds ops.Lt a c

-- a remainder has the divisor's sign, or is 0, and is less than the divisor without signs
abbrev pub IsRemainder : ℤ → ℤ → Type 0
IsRemainder (pos b) r = (pos 0 ≤ℤ r) × (r <ℤ pos b)
IsRemainder (negsuc b) r = (negsuc b <ℤ r) × (r ≤ℤ pos 0)

-- quotient times divisor, and the remainder, are the number (Language Reference 6.7: "x == (x//y)*y + (x%y)")
pub record IsDivision (a b q r : ℤ) : Type 0 where
  pub whole : q *ℤ b +ℤ r ≡ a
  pub sign : IsRemainder b r

-- quotient and remainder make up the number; so the quotient is the one rounded down
abbrev pub RoundsDown : Type 0
RoundsDown = (a b : ℤ) → b ≢ pos 0 → IsDivision a b (floor_quotient a b) (floor_remainder a b)
