-- The arguments of the functions that ask for an attribute.
use Rattle.std.specs.Prelude.{ℕ, Option, Some, None}
use Rattle.py_value.specs.declared.kind.Native.TheVariants as natives
use Rattle.py_value.specs.declared.value.Value.{Value}
use Rattle.meaning_state.specs.declared.fault.Fault.TheVariants as fault
use Rattle.meaning_script.specs.Pieces.{Piece, fails}
use Rattle.meaning_script.specs.Calls.{member_named, telling, defaulting}
use Rattle.meaning_script.specs.Meaning.{World}
use Rattle.step_calls.specs.Around.{access_at}

-- `hasattr`: whether the attribute is there; only an AttributeError says that it is not, and any other error goes on
abbrev pub asks_whether : World → ℕ → Option (Value × Value) → Piece
asks_whether w d None = fails (fault.ArgumentCount natives.HasAttr)
asks_whether w d (Some p) = λ s k. member_named (access_at w d) p.0 p.1 s (telling k)

-- `getattr` without a default: the attribute, or the error of its read
abbrev pub asks_for : World → ℕ → Option (Value × Value) → Piece
asks_for w d None = fails (fault.ArgumentCount natives.GetAttr)
asks_for w d (Some p) = member_named (access_at w d) p.0 p.1

-- with what comes in place of an attribute that is not there
abbrev pub asks_or : World → ℕ → Option (Value × Value) → Value → Piece
asks_or w d None default = fails (fault.ArgumentCount natives.GetAttr)
asks_or w d (Some p) default = λ s k. member_named (access_at w d) p.0 p.1 s (defaulting k default)
