-- The import statements of a script (Language Reference 7.11) in the order in which they are written: those in blocks
-- and in the bodies of functions stand at their places too.
use Rattle.std.specs.Prelude.{ℕ, List, [], ◌∷◌, ◌++◌, map, flat_map, Option, Some, None}
use Rattle.std.specs.List.{join_with_byte}
use Rattle.py_syntax.specs.declared.stmt.Alias.{Alias}
use Rattle.py_syntax.specs.declared.stmt.ImportedNames.{ImportedNames}
use Rattle.py_syntax.specs.declared.stmt.ImportedNames.TheVariants.{All, Listed}
use Rattle.py_syntax.specs.declared.stmt.Stmt.{Stmt}
use Rattle.py_syntax.specs.declared.stmt.Stmt.TheOpen.{Stmt-F, Branch-F, FuncDef-F, Handler-F}
use Rattle.py_syntax.specs.declared.stmt.Stmt.TheFolds.{fold-Stmt, fold-Branch, fold-FuncDef, fold-Handler}
use Rattle.py_syntax.specs.declared.stmt.Branch.{Branch}
use Rattle.py_syntax.specs.declared.stmt.FuncDef.{FuncDef}
use Rattle.py_syntax.specs.declared.stmt.Handler.{Handler}
use Rattle.py_syntax.specs.declared.stmt.Script.{Script}
use Rattle.report_questions.specs.declared.collect.Asked.{Asked}
use Rattle.report_questions.specs.declared.collect.Asked.TheVariants as asked

-- statements in order, each as what it asks for
abbrev pub Found : Type 0
Found = List Asked

-- the name that parts spell with dots between; no parts spell the empty text
abbrev pub dotted_name : List (List ℕ) → List ℕ
dotted_name parts = join_with_byte 46 parts

-- ---- what one statement asks for

-- the dotted names that stand before each `as`
abbrev pub alias_names : List Alias → List (List ℕ)
alias_names aliases = map (λ a. dotted_name a.parts) aliases

-- the names behind the `import` of a `from`, or none for `*`
abbrev pub imported_names : ImportedNames → Option (List (List ℕ))
imported_names All = None
imported_names (Listed items) = Some (alias_names items)

-- `import a, b.c`
abbrev pub asked_modules : List Alias → Asked
asked_modules aliases = asked.Modules (alias_names aliases)

-- `from ..m import x, y`
abbrev pub asked_from : ℕ → List (List ℕ) → ImportedNames → Asked
asked_from level parts imported = asked.From level (dotted_name parts) (imported_names imported)

-- ---- a layer of each type, with the statements that stand in each part in its place

-- the statements in several forms, one form behind the other
abbrev pub in_order : List Found → Found
in_order forms = flat_map (λ found. found) forms

-- an import statement is found itself; any other form has what its blocks have, in the order in which they are written
abbrev pub stmt_at : Stmt-F Found Found Found Found → Found
stmt_at (Stmt-F.Import aliases) = asked_modules aliases ∷ []
stmt_at (Stmt-F.From level parts imported) = asked_from level parts imported ∷ []
stmt_at (Stmt-F.If branches otherwise) = in_order branches ++ in_order otherwise
stmt_at (Stmt-F.While test body) = in_order body
stmt_at (Stmt-F.Try body handlers otherwise finally) = in_order body ++ (in_order handlers ++ (in_order otherwise ++ in_order finally))
stmt_at (Stmt-F.Def function) = function
stmt_at s = []

-- an `if` or `elif` has what its block has
abbrev pub branch_at : Branch-F Found Found Found Found → Found
branch_at b = in_order b.body

-- a function has what its body has
abbrev pub function_at : FuncDef-F Found Found Found Found → Found
function_at f = in_order f.body

-- an `except` has what its block has
abbrev pub handler_at : Handler-F Found Found Found Found → Found
handler_at h = in_order h.body

-- ---- the forms

-- in a statement, at any depth
abbrev pub in_stmt : Stmt → Found
in_stmt = fold-Stmt Found Found Found Found stmt_at branch_at function_at handler_at

-- in an `if` or `elif` with its block
abbrev pub in_branch : Branch → Found
in_branch = fold-Branch Found Found Found Found stmt_at branch_at function_at handler_at

-- in the body of a function
abbrev pub in_function : FuncDef → Found
in_function = fold-FuncDef Found Found Found Found stmt_at branch_at function_at handler_at

-- in an `except` with its block
abbrev pub in_handler : Handler → Found
in_handler = fold-Handler Found Found Found Found stmt_at branch_at function_at handler_at

-- in a block, its statements from first to last
abbrev pub in_stmts : List Stmt → Found
in_stmts ss = in_order (map in_stmt ss)

-- in the branches of an `if`, without its `else`
abbrev pub in_branches : List Branch → Found
in_branches bs = in_order (map in_branch bs)

-- in the handlers of a `try`
abbrev pub in_handlers : List Handler → Found
in_handlers hs = in_order (map in_handler hs)

-- ---- scripts

-- all import statements of a script
unfoldable pub statements : Script → Found
statements script = in_stmts script.body
