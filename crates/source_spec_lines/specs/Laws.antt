-- What holds of the reader of expressions, in terms of the grammar.
use Rattle.std.specs.Prelude.{◌≡◌, ℕ, ◌<◌, List, ◌++◌, Err}
use Rattle.source_combinators.specs.declared.fault.Fault.{Fault}
use Rattle.source_combinators.specs.Reading.{given, head_of}
use Rattle.source_combinators.specs.Refusals.{IsFront, IsFirstRefused}
use Rattle.py_syntax.specs.declared.lexeme.Lexeme.{Lexeme}
use Rattle.py_syntax.specs.declared.expr.Spelled.{Spelled}
use Rattle.py_syntax.specs.Expressions.{IsExpr}
use Rattle.source_spec_lines.specs.Expressions.{expr, strength}

-- what is read is spelled by the tokens before those that are left
abbrev pub ReadIsSpelled : Type 0
ReadIsSpelled = (room : ℕ) (ts rest : List Lexeme) (e : Spelled) → expr room ts ≡ given e rest → IsFront IsExpr room ts e rest

-- what is spelled is read, before a token that does not go on with an expression
abbrev pub SpelledIsRead : Type 0
SpelledIsRead = (room : ℕ) (front rest : List Lexeme) (e : Spelled) → IsExpr room front e → strength (head_of rest) < 1 → expr room (front ++ rest) ≡ given e rest

-- the refused token is the first one that no expression has after those before it
abbrev pub RefusedIsFirst : Type 0
RefusedIsFirst = (room : ℕ) (ts : List Lexeme) (fault : Fault) → expr room ts ≡ Err fault → IsFirstRefused IsExpr room ts fault

-- tokens spell one expression at most
abbrev pub OneExpression : Type 0
OneExpression = (room : ℕ) (ts : List Lexeme) (a b : Spelled) → IsExpr room ts a → IsExpr room ts b → a ≡ b
