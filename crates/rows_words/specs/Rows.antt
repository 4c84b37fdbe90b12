-- What is left of a row, where its calls take something off its front.
use Rattle.std.specs.Prelude.{ℕ, List, [], ◌∷◌, length, drop, ◌-◌, ◌==◌, ◌||◌, Bool, nat_eq, nat_le, if◌then◌else◌}
use Rattle.std.specs.Char.{is_ascii_alphanumeric}
use Rattle.std.specs.List.{starts_with}

-- without the blanks (32) at the front
abbrev pub without_blanks : List ℕ → List ℕ
without_blanks [] = []
without_blanks (b ∷ bs) = if b == 32 then without_blanks bs else b ∷ bs

-- behind one blank, where one stands at the front
abbrev pub behind_blank : List ℕ → List ℕ
behind_blank [] = []
behind_blank (b ∷ bs) = if b == 32 then bs else b ∷ bs

-- whether the sign stands at the front
abbrev pub begins : List ℕ → List ℕ → Bool
begins row sign = starts_with nat_eq row sign

-- what is left once so many bytes were taken, and the blanks behind them
abbrev pub left_behind : List ℕ → ℕ → List ℕ
left_behind row n = without_blanks (drop n row)

-- a name is of letters, digits, `_` (95) and bytes of characters beyond ASCII
abbrev pub is_name_byte : ℕ → Bool
is_name_byte b = is_ascii_alphanumeric b || b == 95 || nat_le 128 b

-- what stands behind the bytes before the next blank, and behind those of a name
abbrev pub behind_word : List ℕ → List ℕ
behind_word [] = []
behind_word (b ∷ bs) = if b == 32 then b ∷ bs else behind_word bs

abbrev pub behind_name : List ℕ → List ℕ
behind_name [] = []
behind_name (b ∷ bs) = if is_name_byte b then behind_name bs else b ∷ bs

-- how many bytes stand before that
abbrev pub word_len : List ℕ → ℕ
word_len row = length row - length (behind_word row)

abbrev pub name_len : List ℕ → ℕ
name_len row = length row - length (behind_name row)
