-- What holds of the functions of each script that tokens spell.
use Rattle.std.specs.Prelude.{◌≡◌, ℕ, List, Some}
use Rattle.py_syntax.specs.declared.lexeme.Lexeme.{Lexeme}
use Rattle.py_syntax.specs.declared.stmt.FuncDef.{FuncDef}
use Rattle.py_syntax.specs.declared.stmt.Script.{Script}
use Rattle.py_syntax.specs.Grammar.{Spells}
use Rattle.source_functions.specs.Functions.{function_of}

-- the function of a number has this number
abbrev pub NumberedInOrder : Type 0
NumberedInOrder = (room : ℕ) (ts : List Lexeme) (script : Script) → Spells room ts script → (number : ℕ) (function : FuncDef) → function_of script number ≡ Some function → function.number ≡ number
