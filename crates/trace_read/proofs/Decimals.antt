-- Decimal numbers are closed, and read back.
use Rattle.std.proofs.Common.{◌≡◌, ◌∙◌, refl, sym, ap, subst, ℕ, zero, suc, ◌+◌, ◌^◌, ◌<◌, ◌≤◌, List, [], ◌∷◌, ◌++◌, length, Bool, true, arith}
use Rattle.std.proofs.lemmas.Bool.{and_parts}
use Rattle.std.proofs.lemmas.Fmt.{decimal_is_IsNumeral_wide}
use Rattle.std.specs.List.{list_all}
use Rattle.std.specs.Char.{is_ascii_digit}
use Rattle.std.specs.Fmt.{decimal}
use Rattle.base_spelling.proofs.Spelled.{own}
use Rattle.trace_fields.proofs.Closed.{is_ordinary}
use Rattle.trace_read.proofs.Bytes.{digit_ordinary, each_also}

pub decimal_digits : (n : ℕ) → n < 10 ^ 64 → list_all is_ascii_digit (decimal n) ≡ true
decimal_digits n h = own.from (decimal n) (decimal_is_IsNumeral_wide n h).0.1

pub decimal_ordinary : (n : ℕ) → n < 10 ^ 64 → list_all is_ordinary (decimal n) ≡ true
decimal_ordinary n h = each_also is_ascii_digit is_ordinary digit_ordinary (decimal n) (decimal_digits n h)

-- how a number begins
pub first_digit : (ds : List ℕ) → list_all is_ascii_digit ds ≡ true → 0 < length ds → (b : ℕ) × (bs : List ℕ) × (ds ≡ b ∷ bs) × (is_ascii_digit b ≡ true)
first_digit [] h some = absurd (omega arith)
first_digit (b ∷ bs) h some = (b, bs, refl, (and_parts (is_ascii_digit b) (list_all is_ascii_digit bs) h).0)

pub decimal_first : (n : ℕ) → n < 10 ^ 64 → (b : ℕ) × (bs : List ℕ) × (decimal n ≡ b ∷ bs) × (is_ascii_digit b ≡ true)
decimal_first n h = first_digit (decimal n) (decimal_digits n h) (decimal_is_IsNumeral_wide n h).0.0

pub small_wide : (n : ℕ) → n < 2 ^ 64 → n < 10 ^ 64
small_wide n h = omega arith
