-- How texts and sources are spelled in traces and in rounds files. The format is this project's own.
use Rattle.std.specs.Prelude.{ℕ, ◌+◌, ◌/◌, ◌%◌, List, [], ◌∷◌, ◌++◌, codes, Bool, ◌==◌, ◌||◌, nat_lt, if◌then◌else◌}
use Rattle.std.specs.List.{flat_map}
use Rattle.std.specs.Str.{is_utf8}

-- a hexadecimal digit in lower case
abbrev pub hex_digit : ℕ → ℕ
hex_digit n = if nat_lt n 10 then 48 + n else 87 + n

-- a byte as two hexadecimal digits
abbrev pub hex_byte : ℕ → List ℕ
hex_byte b = hex_digit (b / 16) ∷ hex_digit (b % 16) ∷ []

-- a backslash (92), a quote (34), and the bytes below 20 and 7F hexadecimal
abbrev pub is_escaped : ℕ → Bool
is_escaped b = b == 92 || b == 34 || nat_lt b 32 || b == 127

-- what such a byte is written as: `\\`, `\"`, `\n`, `\r`, `\t`, and `\xHH` for the others
abbrev pub escape : ℕ → List ℕ
escape b =
    if b == 92 || b == 34 then 92 ∷ b ∷ []
    else if b == 10 then codes "\\n"
    else if b == 13 then codes "\\r"
    else if b == 9 then codes "\\t"
    else codes "\\x" ++ hex_byte b

-- every other byte stands for itself
abbrev pub escaped : ℕ → List ℕ
escaped b = if is_escaped b then escape b else b ∷ []

-- a text stands in quotes
abbrev pub quoted : List ℕ → List ℕ
quoted text = (34 ∷ flat_map escaped text) ++ 34 ∷ []

-- bytes that are no text stand as their digits in `hex(` and `)`
abbrev pub in_hex : List ℕ → List ℕ
in_hex bytes = (codes "hex(" ++ flat_map hex_byte bytes) ++ codes ")"

-- a source is written as a text where it is UTF-8, and else by its digits
abbrev pub source : List ℕ → List ℕ
source bytes = if is_utf8 bytes then quoted bytes else in_hex bytes
