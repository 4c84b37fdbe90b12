-- What the code holds, as the definitions see it.
use Rattle.std.specs.Prelude.{ℕ, Bool, List, [], ◌∷◌, Option}
use Rattle.source_combinators.specs.Reading.{Read, refused}
use Rattle.py_syntax.specs.declared.lexeme.Lexeme.{Lexeme}
use Rattle.py_syntax.specs.declared.expr.BinaryOp.{BinaryOp}
use Rattle.py_syntax.specs.declared.stmt.Alias.{Alias}
use Rattle.py_syntax.specs.declared.stmt.Stmt.{Stmt}
use Rattle.source_parse_lines.specs.declared.imports.NameItems.{NameItems}
use Rattle.source_parse_lines.specs.declared.lines.Stmts.{Stmts}
use Rattle.source_spec_lines.specs.Lines.{augmented_by}
use Rattle.source_parse_lines.specs.declared.sources.ImportSource.{ImportSource}

-- what stands behind `from`: how many dots, and the parts of the dotted name
abbrev pub source_of : ImportSource → ℕ × List (List ℕ)
source_of s = (s.dots, s.parts)

-- the items so far, and whether another one may follow: there is none yet, or a comma came last
abbrev pub items_of : NameItems → List Alias × Bool
items_of items = (items.found, items.is_open)

-- the statements of a line so far, and whether another one may follow: there is none yet, or a semicolon came last
abbrev pub stmts_of : Stmts → List Stmt × Bool
stmts_of stmts = (stmts.found, stmts.is_open)

-- what follows a name: the operator of an augmented assignment, and its expression
abbrev pub augmented_at : ℕ → Option (List ℕ) → BinaryOp → List Lexeme → Read Lexeme Stmt
augmented_at room name operator [] = refused []
augmented_at room name operator (t ∷ ts) = augmented_by room name operator t ts
