-- Loads that may not have begun.
use Rattle.std.specs.Prelude.{ℕ, Bool, true, false, Option, Some, None, ◌==◌}

-- neither has begun, or both are the load of the same number
abbrev pub is_same_load : Option ℕ → Option ℕ → Bool
is_same_load None None = true
is_same_load None (Some y) = false
is_same_load (Some x) None = false
is_same_load (Some x) (Some y) = x == y
