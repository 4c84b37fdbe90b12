-- Parts of a module that an `import` names.
use Rattle.std.specs.Prelude.{ℕ, List, Option, Some, None, slice_get}
use Rattle.py_syntax.specs.declared.stmt.Branch.{Branch}
use Rattle.py_syntax.specs.declared.stmt.FuncDef.{FuncDef}
use Rattle.py_syntax.specs.declared.stmt.Handler.{Handler}
use Rattle.py_syntax.specs.declared.stmt.ImportedNames.{ImportedNames}
use Rattle.py_syntax.specs.declared.stmt.Stmt.{Stmt, out-Stmt}
use Rattle.py_syntax.specs.declared.stmt.Stmt.TheOpen.{Stmt-F}
use Rattle.py_syntax.specs.declared.stmt.Alias.{Alias}

-- the first part of its dotted name
abbrev pub front_of : Option Alias → Option (List ℕ)
front_of None = None
front_of (Some a) = slice_get a.parts 0

-- what a `from` statement says: its dots, its parts and its names
abbrev pub from_layer : Stmt-F Stmt Branch FuncDef Handler → Option (ℕ × List (List ℕ) × ImportedNames)
from_layer (Stmt-F.From dots parts names) = Some (dots, parts, names)
from_layer stmt = None

-- the same of a statement that may be missing; where it is, there is none
abbrev pub from_of : Option Stmt → Option (ℕ × List (List ℕ) × ImportedNames)
from_of None = None
from_of (Some s) = from_layer (out-Stmt s)
