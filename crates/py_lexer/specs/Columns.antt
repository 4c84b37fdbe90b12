-- The two columns of leading white space (Language Reference 2.1.8): in the first a tab goes to the next
-- multiple of 8, in the second it counts 1. A blank counts 1 in both, and a form feed sets both to 0.
use Rattle.std.specs.Prelude.{ℕ, ◌+◌, ◌*◌, ◌/◌, ◌==◌, if◌then◌else◌, List, [], ◌∷◌}
use Rattle.py_lexer.specs.declared.columns.Columns.{Columns}
use Rattle.py_lexer.specs.Chars.{is_white}

-- where a line begins, before any white space: both columns are 0
abbrev pub margin : Columns
margin = record { first = 0; second = 0 }

-- the columns behind a character of white space: a tab is 9, a form feed 12
abbrev pub advanced : Columns → ℕ → Columns
advanced at c =
    if c == 9 then record { first = at.first / 8 * 8 + 8; second = at.second + 1 }
    else if c == 12 then margin
    else record { first = at.first + 1; second = at.second + 1 }

-- reading: the columns after the white space at the front, and what follows it
unfoldable pub leading : Columns → List ℕ → Columns × List ℕ
leading at [] = (at, [])
leading at (c ∷ cs) = if is_white c then leading (advanced at c) cs else (at, c ∷ cs)

-- the columns after white space
abbrev pub columns_after : Columns → List ℕ → Columns
columns_after at [] = at
columns_after at (c ∷ cs) = columns_after (advanced at c) cs
