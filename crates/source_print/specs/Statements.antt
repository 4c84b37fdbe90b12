-- How a script is printed: a statement a line, each block on lines of its own.
use Rattle.std.specs.Prelude.{ℕ, zero, suc, List, [], ◌∷◌, ◌++◌, map, flat_map, Option, Some, None}
use Rattle.py_syntax.specs.declared.lexeme.Lexeme.{Lexeme}
use Rattle.py_syntax.specs.declared.lexeme.Lexeme.TheVariants as token
use Rattle.py_syntax.specs.declared.expr.Expr.{Expr}
use Rattle.py_syntax.specs.declared.expr.BinaryOp.{BinaryOp}
use Rattle.py_syntax.specs.declared.expr.BinaryOp.TheVariants as op
use Rattle.py_syntax.specs.declared.stmt.Alias.{Alias}
use Rattle.py_syntax.specs.declared.stmt.ImportedNames.{ImportedNames}
use Rattle.py_syntax.specs.declared.stmt.ImportedNames.TheVariants.{All, Listed}
use Rattle.py_syntax.specs.declared.stmt.Stmt.{Stmt}
use Rattle.py_syntax.specs.declared.stmt.Stmt.TheOpen.{Stmt-F, Branch-F, FuncDef-F, Handler-F}
use Rattle.py_syntax.specs.declared.stmt.Stmt.TheFolds.{fold-Stmt, fold-Branch, fold-FuncDef, fold-Handler}
use Rattle.py_syntax.specs.declared.stmt.Branch.{Branch}
use Rattle.py_syntax.specs.declared.stmt.FuncDef.{FuncDef}
use Rattle.py_syntax.specs.declared.stmt.Handler.{Handler}
use Rattle.py_syntax.specs.declared.stmt.Script.{Script}
use Rattle.source_print.specs.Expressions.{separated, expr_tokens}

-- ---- names

-- a name is one lexeme
abbrev pub name_tokens : List ℕ → List Lexeme
name_tokens n = token.Name n ∷ []

-- names with this lexeme between: a dot in a dotted name, a comma in a list
abbrev pub names_with : Lexeme → List (List ℕ) → List Lexeme
names_with sep ns = separated sep (map name_tokens ns)

-- [ "as" NAME ]: nothing where no new name is given
abbrev pub bound_tokens : Option (List ℕ) → List Lexeme
bound_tokens None = []
bound_tokens (Some n) = token.As ∷ token.Name n ∷ []

-- alias := dotted [ "as" NAME ]; an item of `from` is printed so too, with its one part
abbrev pub alias_tokens : Alias → List Lexeme
alias_tokens a = names_with token.Dot a.parts ++ bound_tokens a.bound

-- with commas between, and none behind the last
abbrev pub aliases : List Alias → List Lexeme
aliases items = separated token.Comma (map alias_tokens items)

-- what stands behind the `import` of a `from`: never in parentheses, which would open a level
abbrev pub imported : ImportedNames → List Lexeme
imported All = token.Star ∷ []
imported (Listed items) = aliases items

-- the dots of a relative import (Language Reference 5.7), each a lexeme of its own and never `...`
abbrev pub dots : ℕ → List Lexeme
dots zero = []
dots (suc n) = token.Dot ∷ dots n

-- ---- lines and blocks

-- the sign of each augmented assignment (Language Reference 7.2.1)
abbrev pub augmented : BinaryOp → Lexeme
augmented op.Add = token.PlusEq
augmented op.Sub = token.MinusEq
augmented op.Mul = token.StarEq
augmented op.FloorDiv = token.SlashSlashEq
augmented op.Mod = token.PercentEq

-- an expression that may be left out, behind `return`, `raise` or `except`
abbrev pub optional : Option Expr → List Lexeme
optional None = []
optional (Some e) = expr_tokens e

-- what stands on a line of its own ends with Newline
abbrev pub on_line : List Lexeme → List Lexeme
on_line ts = ts ++ token.Newline ∷ []

-- one statement behind the other
abbrev pub in_order : List (List Lexeme) → List Lexeme
in_order tss = flat_map (λ ts. ts) tss

-- a block begins on the next line, one level deeper, also where its source had it behind the colon
abbrev pub block : List (List Lexeme) → List Lexeme
block tss = token.Newline ∷ token.Indent ∷ (in_order tss ++ token.Dedent ∷ [])

-- a word with its block, where there are statements
abbrev pub clause : Lexeme → List (List Lexeme) → List Lexeme
clause word [] = []
clause word (ts ∷ tss) = word ∷ token.Colon ∷ block (ts ∷ tss)

-- branches with their words
abbrev pub branches : List (List Lexeme) → List Lexeme
branches [] = []
branches (first ∷ others) = token.If ∷ (first ++ flat_map (λ ts. token.Elif ∷ ts) others)

-- all names in one `global` line
abbrev pub global_line : List (List ℕ) → List Lexeme
global_line [] = []
global_line (n ∷ ns) = token.Global ∷ on_line (names_with token.Comma (n ∷ ns))

-- ---- a layer of each type, with what is printed of each part in its place

-- a simple statement ends with its Newline, a compound one with the last of its blocks (Language Reference 7, 8)
abbrev pub stmt_at : Stmt-F (List Lexeme) (List Lexeme) (List Lexeme) (List Lexeme) → List Lexeme
stmt_at (Stmt-F.Evaluate e) = on_line (expr_tokens e)
stmt_at (Stmt-F.Assign e x) = on_line (expr_tokens e ++ token.Assign ∷ expr_tokens x)
stmt_at (Stmt-F.Augment n o x) = on_line (token.Name n ∷ augmented o ∷ expr_tokens x)
stmt_at (Stmt-F.Delete e) = on_line (token.Del ∷ expr_tokens e)
stmt_at Stmt-F.Pass = on_line (token.Pass ∷ [])
stmt_at Stmt-F.Break = on_line (token.Break ∷ [])
stmt_at Stmt-F.Continue = on_line (token.Continue ∷ [])
stmt_at (Stmt-F.Return e) = on_line (token.Return ∷ optional e)
stmt_at (Stmt-F.Raise e) = on_line (token.Raise ∷ optional e)
stmt_at (Stmt-F.Import items) = on_line (token.Import ∷ aliases items)
stmt_at (Stmt-F.From n parts names) = on_line (token.From ∷ ((dots n ++ names_with token.Dot parts) ++ token.Import ∷ imported names))
stmt_at (Stmt-F.If tests otherwise) = branches tests ++ clause token.Else otherwise
stmt_at (Stmt-F.While e body) = token.While ∷ (expr_tokens e ++ token.Colon ∷ block body)
stmt_at (Stmt-F.Try body handlers otherwise finally) =
    token.Try ∷ token.Colon ∷ (block body ++ (in_order handlers ++ (clause token.Else otherwise ++ clause token.Finally finally)))
stmt_at (Stmt-F.Def f) = f

-- a test with its block, as it stands behind `if` or `elif` (Language Reference 8.1)
abbrev pub branch_at : Branch-F (List Lexeme) (List Lexeme) (List Lexeme) (List Lexeme) → List Lexeme
branch_at b = expr_tokens b.test ++ token.Colon ∷ block b.body

-- `except`, with the kinds and the name where it has them, and its block (Language Reference 8.4.1)
abbrev pub handler_at : Handler-F (List Lexeme) (List Lexeme) (List Lexeme) (List Lexeme) → List Lexeme
handler_at h = token.Except ∷ (optional h.kinds ++ (bound_tokens h.bound ++ token.Colon ∷ block h.body))

-- a function (Language Reference 8.7): no comma behind its last
-- parameter, and its names of `global` at the head of its body
abbrev pub function_at : FuncDef-F (List Lexeme) (List Lexeme) (List Lexeme) (List Lexeme) → List Lexeme
function_at f =
    token.Def ∷ token.Name f.name ∷ token.OpenParen ∷ (names_with token.Comma f.parameters ++ token.CloseParen ∷ token.Colon
    ∷ token.Newline ∷ token.Indent ∷ (global_line f.globals ++ (in_order f.body ++ token.Dedent ∷ [])))

-- a whole statement, with all that stands in its blocks
abbrev pub stmt_tokens : Stmt → List Lexeme
stmt_tokens = fold-Stmt (List Lexeme) (List Lexeme) (List Lexeme) (List Lexeme) stmt_at branch_at function_at handler_at

-- a whole branch, without the `if` or `elif` before it
abbrev pub branch_tokens : Branch → List Lexeme
branch_tokens = fold-Branch (List Lexeme) (List Lexeme) (List Lexeme) (List Lexeme) stmt_at branch_at function_at handler_at

-- a whole function, from its `def` to the Dedent of its body
abbrev pub function_tokens : FuncDef → List Lexeme
function_tokens = fold-FuncDef (List Lexeme) (List Lexeme) (List Lexeme) (List Lexeme) stmt_at branch_at function_at handler_at

-- a whole handler, from its `except` to the Dedent of its block
abbrev pub handler_tokens : Handler → List Lexeme
handler_tokens = fold-Handler (List Lexeme) (List Lexeme) (List Lexeme) (List Lexeme) stmt_at branch_at function_at handler_at

-- statements in their order, all on one level
abbrev pub stmts_tokens : List Stmt → List Lexeme
stmts_tokens ss = in_order (map stmt_tokens ss)

-- the lexemes of a script
abbrev pub printed : Script → List Lexeme
printed s = stmts_tokens s.body ++ token.End ∷ []
