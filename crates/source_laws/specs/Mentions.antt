-- The names that stand in a tree, each alone, and the parts of each dotted name of an import together.
use Rattle.std.specs.Prelude.{ℕ, zero, suc, List, [], ◌∷◌, ◌++◌, map, flat_map, Option, Some, None}
use Rattle.py_syntax.specs.declared.expr.Expr.{Expr}
use Rattle.py_syntax.specs.declared.expr.Expr.TheOpen.{Expr-F}
use Rattle.py_syntax.specs.declared.expr.Expr.TheFolds.{fold-Expr}
use Rattle.py_syntax.specs.declared.stmt.Alias.{Alias}
use Rattle.py_syntax.specs.declared.stmt.ImportedNames.{ImportedNames}
use Rattle.py_syntax.specs.declared.stmt.ImportedNames.TheVariants.{All, Listed}
use Rattle.py_syntax.specs.declared.stmt.Stmt.{Stmt}
use Rattle.py_syntax.specs.declared.stmt.Stmt.TheOpen.{Stmt-F, Branch-F, FuncDef-F, Handler-F}
use Rattle.py_syntax.specs.declared.stmt.Stmt.TheFolds.{fold-Stmt, fold-Branch, fold-FuncDef, fold-Handler}
use Rattle.py_syntax.specs.declared.stmt.Branch.{Branch}
use Rattle.py_syntax.specs.declared.stmt.FuncDef.{FuncDef}
use Rattle.py_syntax.specs.declared.stmt.Handler.{Handler}
use Rattle.py_syntax.specs.declared.stmt.Script.{Script}

-- a name alone, or the parts of a dotted name together
pub data Mention : Type 0 where
  Named : (name : List ℕ) → Mention
  Dotted : (parts : List (List ℕ)) → Mention

-- in the order of the text, and as often as they stand there
abbrev pub Mentions : Type 0
Mentions = List Mention

-- those of several forms, one form behind the other
abbrev pub in_order : List Mentions → Mentions
in_order forms = flat_map (λ mentions. mentions) forms

-- each of these names by itself
abbrev pub each_named : List (List ℕ) → Mentions
each_named names = map (λ n. Named n) names

-- the name behind an `as`, where there is one
abbrev pub optional_name : Option (List ℕ) → Mentions
optional_name None = []
optional_name (Some n) = Named n ∷ []

-- ---- expressions

-- a name is one itself, an attribute has one behind its dot, and any other form has only those of its parts
abbrev pub expr_at : Expr-F Mentions → Mentions
expr_at (Expr-F.Name n) = Named n ∷ []
expr_at (Expr-F.Tuple items) = in_order items
expr_at (Expr-F.List items) = in_order items
expr_at (Expr-F.Attribute object name) = object ++ Named name ∷ []
expr_at (Expr-F.Call callee arguments) = callee ++ in_order arguments
expr_at (Expr-F.Subscript object index) = object ++ index
expr_at (Expr-F.Negative operand) = operand
expr_at (Expr-F.Binary op left right) = left ++ right
expr_at (Expr-F.Compare op left right) = left ++ right
expr_at (Expr-F.Not operand) = operand
expr_at (Expr-F.And left right) = left ++ right
expr_at (Expr-F.Or left right) = left ++ right
expr_at e = []

-- all names of an expression, however deep they stand
abbrev pub in_expr : Expr → Mentions
in_expr = fold-Expr Mentions expr_at

-- an expression that is left out has none
abbrev pub in_optional : Option Expr → Mentions
in_optional None = []
in_optional (Some e) = in_expr e

-- ---- imports

-- the dotted name that is imported, and the name that it is bound to where `as` gives one
abbrev pub in_alias : Alias → Mentions
in_alias a = Dotted a.parts ∷ optional_name a.bound

-- those of each alias in turn
abbrev pub in_aliases : List Alias → Mentions
in_aliases aliases = flat_map in_alias aliases

-- `*` has no name, a list those of its items
abbrev pub in_imported : ImportedNames → Mentions
in_imported All = []
in_imported (Listed items) = in_aliases items

-- a source of dots alone has no dotted name
abbrev pub in_source : ℕ → List (List ℕ) → Mentions
in_source zero parts = Dotted parts ∷ []
in_source (suc dots) [] = []
in_source (suc dots) (n ∷ ns) = Dotted (n ∷ ns) ∷ []

-- ---- statements

-- those of its expressions and of its blocks; `pass`, `break` and `continue` have none
abbrev pub stmt_at : Stmt-F Mentions Mentions Mentions Mentions → Mentions
stmt_at (Stmt-F.Evaluate e) = in_expr e
stmt_at (Stmt-F.Assign target value) = in_expr target ++ in_expr value
stmt_at (Stmt-F.Augment name op value) = Named name ∷ in_expr value
stmt_at (Stmt-F.Delete target) = in_expr target
stmt_at (Stmt-F.Return value) = in_optional value
stmt_at (Stmt-F.Raise error) = in_optional error
stmt_at (Stmt-F.Import aliases) = in_aliases aliases
stmt_at (Stmt-F.From dots parts names) = in_source dots parts ++ in_imported names
stmt_at (Stmt-F.If branches otherwise) = in_order branches ++ in_order otherwise
stmt_at (Stmt-F.While test body) = in_expr test ++ in_order body
stmt_at (Stmt-F.Try body handlers otherwise finally) = in_order body ++ (in_order handlers ++ (in_order otherwise ++ in_order finally))
stmt_at (Stmt-F.Def function) = function
stmt_at s = []

-- those of the test, then those of the block
abbrev pub branch_at : Branch-F Mentions Mentions Mentions Mentions → Mentions
branch_at b = in_expr b.test ++ in_order b.body

-- the function's own name, its parameters, the names of its `global` lines, then those of its body
abbrev pub function_at : FuncDef-F Mentions Mentions Mentions Mentions → Mentions
function_at f = Named f.name ∷ (each_named f.parameters ++ (each_named f.globals ++ in_order f.body))

-- those of the kinds, the name that the error is bound to, then those of the block
abbrev pub handler_at : Handler-F Mentions Mentions Mentions Mentions → Mentions
handler_at h = in_optional h.kinds ++ (optional_name h.bound ++ in_order h.body)

-- all names of a statement, however deep its blocks go
abbrev pub in_stmt : Stmt → Mentions
in_stmt = fold-Stmt Mentions Mentions Mentions Mentions stmt_at branch_at function_at handler_at

-- the same of a test with its block
abbrev pub in_branch : Branch → Mentions
in_branch = fold-Branch Mentions Mentions Mentions Mentions stmt_at branch_at function_at handler_at

-- the same of a function
abbrev pub in_function : FuncDef → Mentions
in_function = fold-FuncDef Mentions Mentions Mentions Mentions stmt_at branch_at function_at handler_at

-- the same of a handler
abbrev pub in_handler : Handler → Mentions
in_handler = fold-Handler Mentions Mentions Mentions Mentions stmt_at branch_at function_at handler_at

-- those of each statement in turn
abbrev pub in_stmts : List Stmt → Mentions
in_stmts ss = in_order (map in_stmt ss)

-- all names of a script
abbrev pub mentions : Script → Mentions
mentions script = in_stmts script.body
