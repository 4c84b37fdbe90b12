-- Which tokens spell a script: script := { stmt } END.
use Rattle.std.specs.Prelude.{ℕ, List, [], ◌∷◌, ◌++◌}
use Rattle.py_syntax.specs.declared.lexeme.Lexeme.{Lexeme}
use Rattle.py_syntax.specs.declared.lexeme.Lexeme.TheVariants as token
use Rattle.py_syntax.specs.declared.stmt.Stmt.{Stmt}
use Rattle.py_syntax.specs.declared.stmt.Script.{Script}
use Rattle.py_syntax.specs.Contexts.{top}
use Rattle.py_syntax.specs.Statements.{IsStmts}

-- with this many levels open at most
pub data Spells : ℕ → List Lexeme → Script → Type 0 where
  no_statements : {room : ℕ} → Spells room (token.End ∷ []) (record { body = [] })
  statements : {room n : ℕ} {ts : List Lexeme} {ss : List Stmt} → IsStmts top 0 room ts (ss, n) → Spells room (ts ++ token.End ∷ []) (record { body = ss })
