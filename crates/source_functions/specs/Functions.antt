-- The functions of a script, in the order of their `def` tokens (Language
-- Reference 8.7). A function has the number of its place in this list.
use Rattle.std.specs.Prelude.{ℕ, List, [], ◌∷◌, ◌++◌, map, flat_map, Option}
use Rattle.std.specs.List.{slice_get}
use Rattle.py_syntax.specs.declared.stmt.Stmt.{Stmt, roll-Stmt, map-Stmt}
use Rattle.py_syntax.specs.declared.stmt.Stmt.TheOpen.{Stmt-F, Branch-F, FuncDef-F, Handler-F}
use Rattle.py_syntax.specs.declared.stmt.Stmt.TheFolds.{fold-Stmt, fold-Branch, fold-FuncDef, fold-Handler}
use Rattle.py_syntax.specs.declared.stmt.Branch.{Branch}
use Rattle.py_syntax.specs.declared.stmt.FuncDef.{FuncDef}
use Rattle.py_syntax.specs.declared.stmt.Handler.{Handler}
use Rattle.py_syntax.specs.declared.stmt.Script.{Script}

-- a form beside the functions that stand in it
abbrev pub Beside : Type 0 → Type 0
Beside T = T × List FuncDef

-- the functions of several forms, one form behind the other
abbrev pub in_order : {T : Type 0} → List (Beside T) → List FuncDef
in_order forms = flat_map (λ form. form.1) forms

-- the forms alone
abbrev pub alone : {T : Type 0} → List (Beside T) → List T
alone forms = map (λ form. form.0) forms

-- ---- a layer of each type, with its parts beside their functions

-- the functions in a statement, in the order in which its parts are written:
-- those of its blocks, and of a definition its function with those within
abbrev pub found_at : Stmt-F (Beside Stmt) (Beside Branch) (Beside FuncDef) (Beside Handler) → List FuncDef
found_at (Stmt-F.If branches otherwise) = in_order branches ++ in_order otherwise
found_at (Stmt-F.While test body) = in_order body
found_at (Stmt-F.Try body handlers otherwise finally) = in_order body ++ (in_order handlers ++ (in_order otherwise ++ in_order finally))
found_at (Stmt-F.Def function) = function.1
found_at stmt = []

-- a statement, made again of its parts alone, beside the functions in it
abbrev pub stmt_at : Stmt-F (Beside Stmt) (Beside Branch) (Beside FuncDef) (Beside Handler) → Beside Stmt
stmt_at s = (roll-Stmt (map-Stmt (Beside Stmt) (Beside Branch) (Beside FuncDef) (Beside Handler) Stmt Branch FuncDef Handler (λ x. x.0) (λ x. x.0) (λ x. x.0) (λ x. x.0) s), found_at s)

-- an `if` or `elif`, made again of its parts alone, beside the functions in its block
abbrev pub branch_at : Branch-F (Beside Stmt) (Beside Branch) (Beside FuncDef) (Beside Handler) → Beside Branch
branch_at b = (record { test = b.test; body = alone b.body }, in_order b.body)

-- a function stands before those in its body
abbrev pub function_at : FuncDef-F (Beside Stmt) (Beside Branch) (Beside FuncDef) (Beside Handler) → Beside FuncDef
function_at f =
    let function : FuncDef = record { number = f.number; name = f.name; parameters = f.parameters; globals = f.globals; body = alone f.body } in
    (function, function ∷ in_order f.body)

-- an `except`, made again of its parts alone, beside the functions in its block
abbrev pub handler_at : Handler-F (Beside Stmt) (Beside Branch) (Beside FuncDef) (Beside Handler) → Beside Handler
handler_at h = (record { kinds = h.kinds; bound = h.bound; body = alone h.body }, in_order h.body)

-- ---- the forms

-- a statement beside the functions in it, at any depth: those in its blocks, and those in the bodies of these functions
abbrev pub stmt_beside : Stmt → Beside Stmt
stmt_beside = fold-Stmt (Beside Stmt) (Beside Branch) (Beside FuncDef) (Beside Handler) stmt_at branch_at function_at handler_at

-- an `if` or `elif` beside the functions in its block
abbrev pub branch_beside : Branch → Beside Branch
branch_beside = fold-Branch (Beside Stmt) (Beside Branch) (Beside FuncDef) (Beside Handler) stmt_at branch_at function_at handler_at

-- a function beside itself and those in its body, in this order
abbrev pub function_beside : FuncDef → Beside FuncDef
function_beside = fold-FuncDef (Beside Stmt) (Beside Branch) (Beside FuncDef) (Beside Handler) stmt_at branch_at function_at handler_at

-- an `except` beside the functions in its block
abbrev pub handler_beside : Handler → Beside Handler
handler_beside = fold-Handler (Beside Stmt) (Beside Branch) (Beside FuncDef) (Beside Handler) stmt_at branch_at function_at handler_at

-- the functions in a statement, and in several
abbrev pub in_stmt : Stmt → List FuncDef
in_stmt s = (stmt_beside s).1

-- the functions in a block, its statements from first to last
abbrev pub in_stmts : List Stmt → List FuncDef
in_stmts ss = in_order (map stmt_beside ss)

-- the functions in the branches of an `if`, without its `else`
abbrev pub in_branches : List Branch → List FuncDef
in_branches bs = in_order (map branch_beside bs)

-- the functions in the handlers of a `try`
abbrev pub in_handlers : List Handler → List FuncDef
in_handlers hs = in_order (map handler_beside hs)

-- ---- scripts

-- all functions of a script, those in the bodies of others too
unfoldable pub functions : Script → List FuncDef
functions script = in_stmts script.body

-- the function of this number
abbrev pub function_of : Script → ℕ → Option FuncDef
function_of script number = slice_get (functions script) number
