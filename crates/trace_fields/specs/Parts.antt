-- What stands between brackets, and the pieces of it between commas.
use Rattle.std.specs.Prelude.{ℕ, zero, suc, ◌-◌, List, [], ◌∷◌, take, drop, length, get_or, codes, Bool, nat_lt, ◌==◌, ◌&&◌, Option, Some, None, if◌then◌else◌}
use Rattle.std.specs.Option.{option_map, option_and_then}
use Rattle.std.specs.Str.{bytes_eq}
use Rattle.trace_fields.specs.Splitting.{split}

-- what stands between this beginning and this last byte
unfoldable pub between : List ℕ → ℕ → List ℕ → Option (List ℕ)
between front last text =
    if bytes_eq (take (length front) text) front && (nat_lt (length front) (length text) && get_or text (length text - 1) 0 == last)
    then Some (take (length text - 1 - length front) (drop (length front) text)) else None

-- exactly two pieces, and exactly three
abbrev pub two : List (List ℕ) → Option (List ℕ × List ℕ)
two (a ∷ b ∷ []) = Some (a, b)
two _ = None

-- exactly three pieces
abbrev pub three : List (List ℕ) → Option (List ℕ × List ℕ × List ℕ)
three (a ∷ b ∷ c ∷ []) = Some (a, b, c)
three _ = None

-- `FRONTa,b)` and `FRONTa,b,c)`
abbrev pub two_in : List ℕ → List ℕ → Option (List ℕ × List ℕ)
two_in front field = option_and_then (λ inside. two (split 44 inside)) (between front 41 field)

-- `FRONTa,b,c)`: three pieces between commas (44), and the closing parenthesis (41) last
abbrev pub three_in : List ℕ → List ℕ → Option (List ℕ × List ℕ × List ℕ)
three_in front field = option_and_then (λ inside. three (split 44 inside)) (between front 41 field)

-- no items in no text
abbrev pub items : List ℕ → List (List ℕ)
items [] = []
items (b ∷ bs) = split 44 (b ∷ bs)

-- what each piece holds, where each holds something
abbrev pub each : {X : Type 0} → (List ℕ → Option X) → List (List ℕ) → Option (List X)
each read [] = Some []
each read (piece ∷ pieces) = option_and_then (λ x. option_map (λ xs. x ∷ xs) (each read pieces)) (read piece)

-- `[a,..]`, or `(a,..)`
abbrev pub listed : {X : Type 0} → List ℕ → ℕ → (List ℕ → Option X) → List ℕ → Option (List X)
listed front last read field = option_and_then (λ inside. each read (items inside)) (between front last field)
