-- The import statements of a script, each with its line: the k-th of the script's import statements stands in the line
-- of the k-th token that begins one.
use Rattle.std.specs.Prelude.{ℕ, List, [], ◌∷◌}
use Rattle.py_lexer.specs.declared.word.Token.{Token}
use Rattle.py_syntax.specs.declared.stmt.Script.{Script}
use Rattle.report_questions.specs.Lines.{import_lines}
use Rattle.report_questions.specs.Statements.{statements}
use Rattle.report_questions.specs.declared.collect.Asked.{Asked}
use Rattle.report_questions.specs.declared.source.Import.{Import}

-- a statement beside the first of the lines, where there is one
abbrev pub with_first : Asked → List ℕ → List Import
with_first a [] = []
with_first a (line ∷ lines) = record { line = line; asked = a } ∷ []

-- statements beside lines, from first to last
abbrev pub paired : List Asked → List ℕ → List Import
paired [] lines = []
paired (a ∷ all) [] = []
paired (a ∷ all) (line ∷ lines) = record { line = line; asked = a } ∷ paired all lines

-- the import statements of a script that these tokens spell
unfoldable pub imports_of : Script → List Token → List Import
imports_of script ts = paired (statements script) (import_lines ts)
