-- Quotes and escapes of strings (Language Reference 2.4.1).
use Rattle.std.specs.Prelude.{ℕ, ◌+◌, ◌-◌, ◌*◌, ◌==◌, Bool, true, false, not, ◌||◌, ◌&&◌, nat_lt, if◌then◌else◌, List, [], ◌∷◌, drop, Option, Some, None}
use Rattle.py_lexer.specs.declared.quoted.Quotes.{Quotes}

-- what a part of a string gives, and how many line ends it has
pub record Part : Type 0 where
  pub text : List ℕ
  pub lines : ℕ

-- what follows two quotes
unfoldable pub after_two : ℕ → List ℕ → Option (List ℕ)
after_two m [] = None
after_two m (a ∷ []) = None
after_two m (a ∷ b ∷ cs) = if a == m && b == m then Some cs else None

-- what follows the closing quotes, where they stand at the front
unfoldable pub closing_quotes : Quotes → List ℕ → Option (List ℕ)
closing_quotes q [] = None
closing_quotes q (c ∷ cs) = if c == q.mark then (if q.long then after_two c cs else Some cs) else None

-- the quotes that open with c, and what follows them
unfoldable pub opening_quotes : ℕ → List ℕ → Quotes × List ℕ
opening_quotes c cs = elim (after_two c cs) [ None ↦ (record { mark = c; long = false }, cs) | Some rest ↦ (record { mark = c; long = true }, rest) ]

-- the character that a backslash and c stand for: \\ \' \" \n \r \t
unfoldable pub escaped : ℕ → Option ℕ
escaped c =
    if c == 92 || (c == 39 || c == 34) then Some c
    else if c == 110 then Some 10
    else if c == 114 then Some 13
    else if c == 116 then Some 9
    else None

-- the value of `0` to `9`, `a` to `f` and `A` to `F`
unfoldable pub hex_digit : ℕ → Option ℕ
hex_digit c =
    if not (nat_lt c 48) && not (nat_lt 57 c) then Some (c - 48)
    else if not (nat_lt c 97) && not (nat_lt 102 c) then Some (c - 87)
    else if not (nat_lt c 65) && not (nat_lt 70 c) then Some (c - 55)
    else None

-- the value of the two hexadecimal digits, or of the four, at the front
unfoldable pub hex_pair : List ℕ → Option ℕ
hex_pair [] = None
hex_pair (a ∷ []) = None
hex_pair (a ∷ b ∷ cs) = elim (hex_digit a) [ None ↦ None | Some x ↦ elim (hex_digit b) [ None ↦ None | Some y ↦ Some (16 * x + y) ] ]

-- the same of four: the first two count 256 times as much
unfoldable pub hex_four : List ℕ → Option ℕ
hex_four cs = elim (hex_pair cs) [ None ↦ None | Some x ↦ elim (hex_pair (drop 2 cs)) [ None ↦ None | Some y ↦ Some (256 * x + y) ] ]

-- U+D800 to U+DFFF, which no text can hold as UTF-8
abbrev pub is_surrogate : ℕ → Bool
is_surrogate n = not (nat_lt n 55296) && nat_lt n 57344
