-- What is printed stands on lines.
use Rattle.std.specs.Prelude.{ℕ, zero, Bool, List}
use Rattle.py_syntax.specs.declared.lexeme.Lexeme.{Lexeme}
use Rattle.py_syntax.specs.declared.stmt.Script.{Script}
use Rattle.py_syntax.specs.Grammar.{Spells}
use Rattle.source_print.specs.Statements.{printed}
use Rattle.source_print.specs.Lines.{Passes, Held, Laid}

-- The print of a script that some lexemes spell stands on lines, and each
-- name, number and string of it passes where all those lexemes pass.
abbrev pub PrintedIsLaid : Type 0
PrintedIsLaid = (p : Lexeme → Bool) (room : ℕ) (ts : List Lexeme) (s : Script) → Spells room ts s → Held (Passes p) ts → Laid (Passes p) zero (printed s)
