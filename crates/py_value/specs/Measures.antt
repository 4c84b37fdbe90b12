-- Truth, size and nesting of values.
use Rattle.std.specs.Prelude.{ℕ, zero, ◌+◌, ◌/◌, max, List, [], ◌∷◌, length, Bool, true, false, pos}
use Rattle.std.specs.List.{sum}
use Rattle.py_value.specs.declared.value.Value.{Value, out-Value}
use Rattle.py_value.specs.declared.value.Value.TheOpen.{Value-F}
use Rattle.py_value.specs.declared.value.Value.TheFolds.{fold-Value}

-- None, False, 0 and an empty text, list or tuple are false, and all else is true
-- (Language Reference 6.11)
abbrev pub is_true_at : Value-F Value → Bool
is_true_at Value-F.Nothing = false
is_true_at (Value-F.Bool b) = b
is_true_at (Value-F.Int (pos zero)) = false
is_true_at (Value-F.Text []) = false
is_true_at (Value-F.List []) = false
is_true_at (Value-F.Tuple []) = false
is_true_at _ = true

-- truth goes by the outer layer: a list with one item is true, whatever that item is
abbrev pub is_true : Value → Bool
is_true value = is_true_at (out-Value value)

-- one layer, with the size of each item in its place: the whole 64 bytes of a text or of an error's
-- text, the number of items and their sizes for a list or tuple, and 0 for all else
abbrev pub size_at : Value-F ℕ → ℕ
size_at (Value-F.Text text) = length text / 64
size_at (Value-F.Error error) = length error.text / 64
size_at (Value-F.List sizes) = length sizes + sum sizes
size_at (Value-F.Tuple sizes) = length sizes + sum sizes
size_at _ = 0

-- what a value costs in units of the budget, with all that it holds
abbrev pub size_of : Value → ℕ
size_of = fold-Value ℕ size_at

-- the greatest of the numbers, and 0 where there is none
abbrev pub most : List ℕ → ℕ
most [] = 0
most (n ∷ ns) = max n (most ns)

-- one layer, with the nesting of each item in its place: a list or tuple is one level deeper than
-- its deepest item, and all else has no level
abbrev pub nesting_at : Value-F ℕ → ℕ
nesting_at (Value-F.List levels) = most levels + 1
nesting_at (Value-F.Tuple levels) = most levels + 1
nesting_at _ = 0

-- how many lists and tuples stand inside one another at most
abbrev pub nesting_of : Value → ℕ
nesting_of = fold-Value ℕ nesting_at
