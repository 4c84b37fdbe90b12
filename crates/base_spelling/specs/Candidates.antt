-- What bytes would spell, whether they are a spelling or not: a text or
-- source is spelled by them exactly where its spelling gives them back.
use Rattle.std.specs.Prelude.{ℕ, ◌+◌, ◌*◌, ◌-◌, ◌%◌, List, [], ◌∷◌, ◌++◌, drop, Bool, false, ◌==◌, nat_lt, fold, if◌then◌else◌}
use Rattle.base_spelling.specs.declared.candidate.Reading.{Reading}
use Rattle.base_spelling.specs.declared.candidate.Reading.TheVariants as reading
use Rattle.base_spelling.specs.declared.candidate.Decoded.{Decoded}

-- the value of a hexadecimal digit
abbrev pub hex_value : ℕ → ℕ
hex_value c = if nat_lt c 58 then (c - 48) % 16 else (c - 87) % 16

-- the byte of two hexadecimal digits: the value of the high one, and the low one itself
abbrev pub with_low : ℕ → ℕ → ℕ
with_low high c = (high % 16) * 16 + hex_value c

-- the reader goes on at another place, with no byte more
abbrev pub turned : Reading → Decoded → Decoded
turned next d = record d { reading = next }

-- one byte was read, and the reader goes on at this place
abbrev pub given : Reading → ℕ → Decoded → Decoded
given next b d = record { reading = next; bytes = d.bytes ++ b ∷ [] }

-- a byte outside escapes: a backslash begins one, and a quote stands for nothing
abbrev pub plain : ℕ → Decoded → Decoded
plain c d = if c == 92 then turned reading.Escape d else if c == 34 then d else given reading.Plain c d

-- the byte behind a backslash: `x` (120), `n` (110), `r` (114), `t` (116), or one that stands for itself
abbrev pub behind_backslash : ℕ → Decoded → Decoded
behind_backslash c d =
    if c == 120 then turned reading.High d
    else if c == 110 then given reading.Plain 10 d
    else if c == 114 then given reading.Plain 13 d
    else if c == 116 then given reading.Plain 9 d
    else given reading.Plain c d

-- one byte of a field in quotes, by where the reader is: behind `\x` stand the two digits of a byte
abbrev pub quoted_step : Reading → ℕ → Decoded → Decoded
quoted_step reading.Plain c d = plain c d
quoted_step reading.Escape c d = behind_backslash c d
quoted_step reading.High c d = turned (reading.Low (hex_value c)) d
quoted_step (reading.Low high) c d = given reading.Plain (with_low high c) d

-- one byte more of a field in quotes, from where the reader is
abbrev pub quoted_next : Decoded → ℕ → Decoded
quoted_next d c = quoted_step d.reading c d

-- one byte of the digits: two make a byte, so the bracket behind them makes none
abbrev pub hex_step : Reading → ℕ → Decoded → Decoded
hex_step (reading.Low high) c d = given reading.High (with_low high c) d
hex_step other c d = turned (reading.Low (hex_value c)) d

-- one byte more of the digits, from where the reader is
abbrev pub hex_next : Decoded → ℕ → Decoded
hex_next d c = hex_step d.reading c d

-- the reader is here, and has read no byte
abbrev pub began : Reading → Decoded
began first = record { reading = first; bytes = [] }

-- what a field in quotes would spell; the quotes themselves stand for nothing
unfoldable pub quoted_candidate : List ℕ → List ℕ
quoted_candidate field = (fold quoted_next (began reading.Plain) field).bytes

-- the digits stand behind the four bytes of `hex(`
unfoldable pub hex_candidate : List ℕ → List ℕ
hex_candidate field = (fold hex_next (began reading.High) (drop 4 field)).bytes

-- a source that is a text begins with `"` (34), and one in digits does not
abbrev pub begins_with_quote : List ℕ → Bool
begins_with_quote [] = false
begins_with_quote (b ∷ bs) = b == 34

-- the first byte tells in which of the two ways a source is spelled
abbrev pub source_candidate : List ℕ → List ℕ
source_candidate field = if begins_with_quote field then quoted_candidate field else hex_candidate field
