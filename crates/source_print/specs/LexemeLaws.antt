-- What is printed spells its tree again.
use Rattle.std.specs.Prelude.{ℕ, List}
use Rattle.py_syntax.specs.declared.lexeme.Lexeme.{Lexeme}
use Rattle.py_syntax.specs.declared.stmt.Script.{Script}
use Rattle.py_syntax.specs.Grammar.{Spells}
use Rattle.source_print.specs.Statements.{printed}

-- With the levels that some spelling of the script needs, its print spells it.
abbrev pub PrintedIsSpelled : Type 0
PrintedIsSpelled = (room : ℕ) (ts : List Lexeme) (s : Script) → Spells room ts s → Spells room (printed s) s
