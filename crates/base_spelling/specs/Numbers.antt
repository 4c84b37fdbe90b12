-- Decimal numbers as traces and rounds files spell them: digits
-- without leading zeros. The format is this project's own.
use Rattle.std.specs.Prelude.{ℕ, ◌^◌, List, [], ◌∷◌, length, Bool, false, not, nat_le, nat_lt, ◌==◌, ◌&&◌, ◌||◌, Option, Some, None, if◌then◌else◌}
use Rattle.std.specs.List.{list_all}
use Rattle.std.specs.Char.{is_ascii_digit}
use Rattle.std.specs.Str.Parse.{digits_value}

-- the first digit is `0` (48)
abbrev pub begins_with_zero : List ℕ → Bool
begins_with_zero [] = false
begins_with_zero (d ∷ ds) = d == 48

-- at least one digit, and no leading zero
abbrev pub is_number : List ℕ → Bool
is_number text = list_all is_ascii_digit text && (nat_le 1 (length text) && (nat_le (length text) 1 || not (begins_with_zero text)))

-- the number below 2 ^ 64 that the digits spell
unfoldable pub number_in : List ℕ → Option ℕ
number_in text = if is_number text && nat_lt (digits_value 10 text) (2 ^ 64) then Some (digits_value 10 text) else None
