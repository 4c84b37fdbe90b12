-- Where a new item of the search path goes.
use Rattle.std.specs.Prelude.{ℕ, ℤ, Option, Some, None, ◌-◌, min, unsigned_abs, int_lt, pos, if◌then◌else◌}

-- last, or before an index, which counts from the end where it is negative, and is cut to the ends
abbrev pub place_from : ℕ → Option ℤ → ℕ
place_from n None = n
place_from n (Some at) = if int_lt at (pos 0) then n - unsigned_abs at else min (unsigned_abs at) n
