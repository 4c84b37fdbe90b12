-- The names that are local in a function (Language Reference 4.2.1 and 7.12): its parameters, and
-- those that a statement of its body binds, but for those of its `global` lines. A statement
-- binds the name that it assigns or deletes, those that it imports and that of a handler's error;
-- `import a.b` binds `a`. A function within binds its name, and what its body binds is its own.
use Rattle.std.specs.Prelude.{◌≡◌, ℕ, Bool, not, ◌&&◌, List, [], ◌∷◌, ◌++◌, map, flat_map, Option, Some, None}
use Rattle.py_syntax.specs.declared.expr.Expr.{Expr, out-Expr}
use Rattle.py_syntax.specs.declared.expr.Expr.TheOpen.{Expr-F}
use Rattle.py_syntax.specs.declared.stmt.Alias.{Alias}
use Rattle.py_syntax.specs.declared.stmt.ImportedNames.{ImportedNames}
use Rattle.py_syntax.specs.declared.stmt.ImportedNames.TheVariants.{All, Listed}
use Rattle.py_syntax.specs.declared.stmt.Stmt.{Stmt}
use Rattle.py_syntax.specs.declared.stmt.Stmt.TheOpen.{Stmt-F, Branch-F, FuncDef-F, Handler-F}
use Rattle.py_syntax.specs.declared.stmt.Stmt.TheFolds.{fold-Stmt, fold-Branch, fold-Handler}
use Rattle.py_syntax.specs.declared.stmt.Branch.{Branch}
use Rattle.py_syntax.specs.declared.stmt.FuncDef.{FuncDef}
use Rattle.py_syntax.specs.declared.stmt.Handler.{Handler}
use Rattle.py_syntax.specs.Statements.{is_among}

-- names as their bytes, in order; the same one may stand there more than once
abbrev pub Names : Type 0
Names = List (List ℕ)

-- ---- single forms

-- a target that is a name binds it
abbrev pub target_names_at : Expr-F Expr → Names
target_names_at (Expr-F.Name n) = n ∷ []
target_names_at e = []

-- of a whole target: an attribute or a subscription binds no name (Language Reference 4.2.1)
abbrev pub target_names : Expr → Names
target_names e = target_names_at (out-Expr e)

-- the name behind the `as` of a handler, where there is one (Language Reference 8.4)
abbrev pub optional_name : Option (List ℕ) → Names
optional_name None = []
optional_name (Some n) = n ∷ []

-- the first part of a dotted name: `import a.b` without `as` binds that of the top package (Language Reference 7.11)
abbrev pub first_part : Names → Names
first_part [] = []
first_part (n ∷ ns) = n ∷ []

-- the name behind `as`, or else the first part
abbrev pub alias_names : Names → Option (List ℕ) → Names
alias_names parts None = first_part parts
alias_names parts (Some n) = n ∷ []

-- what an `import`, or the list of a `from`, binds: a name for each of its items, in their order
abbrev pub aliases_names : List Alias → Names
aliases_names aliases = flat_map (λ a. alias_names a.parts a.bound) aliases

-- `from .. import *` counts as binding nothing: it is a syntax error in a function (Language Reference 7.11)
abbrev pub imported_names : ImportedNames → Names
imported_names All = []
imported_names (Listed items) = aliases_names items

-- ---- a layer of each type, with the names that each part binds in its place

-- the names of several forms, one form behind the other
abbrev pub in_order : List Names → Names
in_order forms = flat_map (λ names. names) forms

-- a statement binds its target where that is a name, what it imports, the name of the function that it defines, and
-- what the parts of its blocks bind; an expression binds nothing
abbrev pub stmt_at : Stmt-F Names Names Names Names → Names
stmt_at (Stmt-F.Assign target value) = target_names target
stmt_at (Stmt-F.Augment name op value) = name ∷ []
stmt_at (Stmt-F.Delete target) = target_names target
stmt_at (Stmt-F.Import aliases) = aliases_names aliases
stmt_at (Stmt-F.From dots parts names) = imported_names names
stmt_at (Stmt-F.If branches otherwise) = in_order branches ++ in_order otherwise
stmt_at (Stmt-F.While test body) = in_order body
stmt_at (Stmt-F.Try body handlers otherwise finally) = in_order body ++ (in_order handlers ++ (in_order otherwise ++ in_order finally))
stmt_at (Stmt-F.Def function) = function
stmt_at s = []

-- a branch binds what its block binds
abbrev pub branch_at : Branch-F Names Names Names Names → Names
branch_at b = in_order b.body

-- a definition binds the name of its function alone (Language Reference 8.7): what the body binds is its own
abbrev pub function_at : FuncDef-F Names Names Names Names → Names
function_at f = f.name ∷ []

-- a handler binds the name of the error, where it has one, and what its block binds
abbrev pub handler_at : Handler-F Names Names Names Names → Names
handler_at h = optional_name h.bound ++ in_order h.body

-- ---- the names that a form binds

-- of a statement, with the blocks that stand in it at any depth
abbrev pub stmt_names : Stmt → Names
stmt_names = fold-Stmt Names Names Names Names stmt_at branch_at function_at handler_at

-- of an `if` or `elif` with its block
abbrev pub branch_names : Branch → Names
branch_names = fold-Branch Names Names Names Names stmt_at branch_at function_at handler_at

-- of an `except` with its block
abbrev pub handler_names : Handler → Names
handler_names = fold-Handler Names Names Names Names stmt_at branch_at function_at handler_at

-- of a block, its statements from first to last
abbrev pub stmts_names : List Stmt → Names
stmts_names ss = in_order (map stmt_names ss)

-- of the branches of an `if`, without its `else`
abbrev pub branches_names : List Branch → Names
branches_names bs = in_order (map branch_names bs)

-- of the handlers of a `try`
abbrev pub handlers_names : List Handler → Names
handlers_names hs = in_order (map handler_names hs)

-- ---- functions

-- what a function binds, its parameters first, each name as often as it is bound
unfoldable pub bound_names : FuncDef → Names
bound_names f = f.parameters ++ stmts_names f.body

-- the name is local in the function
unfoldable pub is_local : FuncDef → List ℕ → Bool
is_local f n = is_among n (bound_names f) && not (is_among n f.globals)

-- two lists that tell of each name whether the function binds it and whether it stands in a `global` line
pub record LocalsKept (f : FuncDef) (bound globals : Names) : Type 0 where
  pub binds : (n : List ℕ) → is_among n bound ≡ is_among n (bound_names f)
  pub declares : (n : List ℕ) → is_among n globals ≡ is_among n f.globals
