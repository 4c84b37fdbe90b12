-- Operands in whose place a list comes, or that are none.
use Rattle.std.specs.Prelude.{ℕ, List, Option, Bool, true, false, position}
use Rattle.py_value.specs.declared.value.Value.{Value, out-Value}
use Rattle.py_value.specs.declared.value.Value.TheOpen.{Value-F}

-- what stands for the search path, as its list comes in its place, and what stands for the cache, which is no operand
abbrev pub is_listed_at : Value-F Value → Bool
is_listed_at Value-F.SysPath = true
is_listed_at Value-F.SysModules = true
is_listed_at v = false

-- the same of a whole value
abbrev pub is_listed : Value → Bool
is_listed v = is_listed_at (out-Value v)

-- the place of the first of them
abbrev pub first_listed : List Value → Option ℕ
first_listed vs = position is_listed vs
