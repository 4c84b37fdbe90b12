-- Reading statements by descent, a definition for each function of
-- the code. `inner` reads statements with as many levels as `room`.
use Rattle.std.specs.Prelude.{ℕ, zero, suc, ◌&&◌, Bool, true, false, if◌then◌else◌, List, [], ◌∷◌, ◌++◌, Option, Some, None, Ok, Err}
use Rattle.source_combinators.specs.Reading.{Read, ◌>>=◌, given, refused, too_deep, head_of}
use Rattle.source_combinators.specs.Many.{rounds}
use Rattle.source_combinators.specs.Separated.{separated}
use Rattle.py_syntax.specs.declared.lexeme.Lexeme.{Lexeme}
use Rattle.py_syntax.specs.declared.lexeme.Lexeme.TheVariants as token
use Rattle.py_syntax.specs.declared.expr.Expr.{Expr}
use Rattle.py_syntax.specs.declared.stmt.Stmt.{Stmt}
use Rattle.py_syntax.specs.declared.stmt.Stmt.TheVariants as tree
use Rattle.py_syntax.specs.declared.stmt.Branch.{Branch}
use Rattle.py_syntax.specs.declared.stmt.Handler.{Handler}
use Rattle.py_syntax.specs.declared.stmt.Script.{Script}
use Rattle.py_syntax.specs.declared.context.Context.{Context}
use Rattle.py_syntax.specs.Contexts.{top, within_loop, within_finally, within_function}
use Rattle.py_syntax.specs.Statements.{is_among, Body, body}
use Rattle.source_spec_lines.specs.Expressions.{expr, comma, close_paren}
use Rattle.source_spec_lines.specs.Lines.{name, name_ahead, comma_ahead, bound, line}

-- statements, and the number of the first function behind them
abbrev pub Stmts : Type 0
Stmts = List Stmt × ℕ

-- a reader of statements, by where they stand and the number of the first function
abbrev pub Reader : Type 0
Reader = Context → ℕ → List Lexeme → Read Lexeme Stmts

-- ---- single tokens

-- NEWLINE; any other token is refused
unfoldable pub newline : List Lexeme → Read Lexeme (Unit {0})
newline (token.Newline ∷ ts) = given tt ts
newline ts = refused ts

-- ":"; any other token is refused
unfoldable pub colon : List Lexeme → Read Lexeme (Unit {0})
colon (token.Colon ∷ ts) = given tt ts
colon ts = refused ts

-- INDENT; any other token is refused
unfoldable pub indent : List Lexeme → Read Lexeme (Unit {0})
indent (token.Indent ∷ ts) = given tt ts
indent ts = refused ts

-- DEDENT; any other token is refused
unfoldable pub dedent : List Lexeme → Read Lexeme (Unit {0})
dedent (token.Dedent ∷ ts) = given tt ts
dedent ts = refused ts

-- "("; the bracket of parameters opens no level
unfoldable pub open_paren : List Lexeme → Read Lexeme (Unit {0})
open_paren (token.OpenParen ∷ ts) = given tt ts
open_paren ts = refused ts

-- ---- blocks

-- a statement follows in a block, or in a script
unfoldable pub stmt_ahead : Option Lexeme → Bool
stmt_ahead (Some token.Dedent) = false
stmt_ahead (Some token.End) = false
stmt_ahead t = true

-- the same behind statements, whatever they are
abbrev pub begins_stmt : Stmts → Option Lexeme → Bool
begins_stmt s t = stmt_ahead t

-- one stmt more, its functions numbered on from those before
unfoldable pub next_stmt : Reader → Context → Stmts → List Lexeme → Read Lexeme Stmts
next_stmt inner c s ts = inner c s.1 ts >>= λ x. given (s.0 ++ x.0.0, x.0.1) x.1

-- stmt { stmt }
unfoldable pub stmts : Reader → Context → ℕ → List Lexeme → Read Lexeme Stmts
stmts inner c n ts = inner c n ts >>= λ x. rounds begins_stmt (next_stmt inner c) x.0 x.1

-- line NEWLINE; no function stands in it
unfoldable pub line_block : Context → ℕ → ℕ → List Lexeme → Read Lexeme Stmts
line_block c n room ts = line c room ts >>= λ ss. newline ss.1 >>= λ u. given (ss.0, n) u.1

-- stmt { stmt } DEDENT
unfoldable pub stmts_to_dedent : Reader → Context → ℕ → List Lexeme → Read Lexeme Stmts
stmts_to_dedent inner c n ts = stmts inner c n ts >>= λ x. dedent x.1 >>= λ u. given x.0 u.1

-- INDENT stmt { stmt } DEDENT
unfoldable pub indented : Reader → Context → ℕ → List Lexeme → Read Lexeme Stmts
indented inner c n ts = indent ts >>= λ u. stmts_to_dedent inner c n u.1

-- block := line NEWLINE | NEWLINE INDENT stmt { stmt } DEDENT
unfoldable pub block : Reader → ℕ → Context → ℕ → List Lexeme → Read Lexeme Stmts
block inner room c n (token.Newline ∷ ts) = indented inner c n ts
block inner room c n ts = line_block c n room ts

-- ":" block
unfoldable pub colon_block : Reader → ℕ → Context → ℕ → List Lexeme → Read Lexeme Stmts
colon_block inner room c n ts = colon ts >>= λ u. block inner room c n u.1

-- ---- `if` and `while`

-- a test with its block, and the number of the first function behind the block
abbrev pub branch_of : Expr → Stmts → Branch × ℕ
branch_of test b = (record { test = test; body = b.0 }, b.1)

-- expr ":" block, with the number of the first function behind it
unfoldable pub branch : Reader → ℕ → Context → ℕ → List Lexeme → Read Lexeme (Branch × ℕ)
branch inner room c n ts = expr room ts >>= λ e. colon_block inner room c n e.1 >>= λ b. given (branch_of e.0.tree b.0) b.1

-- another `elif` follows, whatever came before
unfoldable pub elif_ahead : List Branch × ℕ → Option Lexeme → Bool
elif_ahead s (Some token.Elif) = true
elif_ahead s t = false

-- "elif" expr ":" block, its functions numbered on from those before
unfoldable pub next_elif : Reader → ℕ → Context → List Branch × ℕ → List Lexeme → Read Lexeme (List Branch × ℕ)
next_elif inner room c s (token.Elif ∷ ts) = branch inner room c s.1 ts >>= λ b. given (s.0 ++ b.0.0 ∷ [], b.0.1) b.1
next_elif inner room c s ts = refused ts

-- expr ":" block { "elif" expr ":" block }
unfoldable pub branches : Reader → ℕ → Context → ℕ → List Lexeme → Read Lexeme (List Branch × ℕ)
branches inner room c n ts = branch inner room c n ts >>= λ b. rounds elif_ahead (next_elif inner room c) (b.0.0 ∷ [], b.0.1) b.1

-- [ "else" ":" block ], empty where it is left out
unfoldable pub else_part : Reader → ℕ → Context → ℕ → List Lexeme → Read Lexeme Stmts
else_part inner room c n (token.Else ∷ ts) = colon_block inner room c n ts
else_part inner room c n ts = given ([], n) ts

-- [ "finally" ":" block ], empty where it is left out
unfoldable pub finally_part : Reader → ℕ → Context → ℕ → List Lexeme → Read Lexeme Stmts
finally_part inner room c n (token.Finally ∷ ts) = colon_block inner room (within_finally c) n ts
finally_part inner room c n ts = given ([], n) ts

-- expr ":" block { "elif" expr ":" block } [ "else" ":" block ], behind "if"
unfoldable pub if_rest : Reader → ℕ → Context → ℕ → List Lexeme → Read Lexeme Stmts
if_rest inner room c n ts = branches inner room c n ts >>= λ b. else_part inner room c b.0.1 b.1 >>= λ ss. given (tree.If b.0.0 ss.0.0 ∷ [], ss.0.1) ss.1

-- expr ":" block, behind "while": the block stands in a loop
unfoldable pub while_rest : Reader → ℕ → Context → ℕ → List Lexeme → Read Lexeme Stmts
while_rest inner room c n ts = branch inner room (within_loop c) n ts >>= λ b. given (tree.While b.0.0.test b.0.0.body ∷ [], b.0.1) b.1

-- ---- `try`

-- the handlers, the number of the first function behind them, and whether another one may follow
pub record Handlers : Type 0 where
  pub found : List Handler
  pub next : ℕ
  pub is_open : Bool

-- one handler more, with the number of the first function behind its block and whether another one may follow
abbrev pub with_handler : List Handler → Option Expr → Option (List ℕ) → Stmts → Bool → Handlers
with_handler found kinds as_name b is_open = record { found = found ++ (record { kinds = kinds; bound = as_name; body = b.0 }) ∷ []; next = b.1; is_open = is_open }

-- an `except` is ahead
unfoldable pub except_ahead : Option Lexeme → Bool
except_ahead (Some token.Except) = true
except_ahead t = false

-- another handler follows where `except` is ahead, unless the last one takes each error
abbrev pub begins_handler : Handlers → Option Lexeme → Bool
begins_handler s t = s.is_open && except_ahead t

-- an error's kinds and its name
unfoldable pub caught : ℕ → List Lexeme → Read Lexeme (Expr × Option (List ℕ))
caught room ts = expr room ts >>= λ e. bound e.1 >>= λ b. given (e.0.tree, b.0) b.1

-- a handler, behind "except"; where the colon comes at once it takes each error, and stands last
-- (Language Reference 8.4.1)
unfoldable pub handler_rest : Reader → ℕ → Context → Handlers → List Lexeme → Read Lexeme Handlers
handler_rest inner room c s (token.Colon ∷ ts) = block inner room c s.next ts >>= λ b. given (with_handler s.found None None b.0 false) b.1
handler_rest inner room c s ts = caught room ts >>= λ k. colon_block inner room c s.next k.1 >>= λ b. given (with_handler s.found (Some k.0.0) k.0.1 b.0 true) b.1

-- handler, or "except" ":" block
unfoldable pub next_handler : Reader → ℕ → Context → Handlers → List Lexeme → Read Lexeme Handlers
next_handler inner room c s (token.Except ∷ ts) = handler_rest inner room c s ts
next_handler inner room c s ts = refused ts

-- handlers, one at least
unfoldable pub handlers : Reader → ℕ → Context → ℕ → List Lexeme → Read Lexeme Handlers
handlers inner room c n ts = next_handler inner room c (record { found = []; next = n; is_open = true }) ts >>= λ h. rounds begins_handler (next_handler inner room c) h.0 h.1

-- [ "else" ":" block ] [ "finally" ":" block ]
unfoldable pub try_ends : Reader → ℕ → Context → ℕ → List Lexeme → Read Lexeme (List Stmt × List Stmt × ℕ)
try_ends inner room c n ts = else_part inner room c n ts >>= λ e. finally_part inner room c e.0.1 e.1 >>= λ f. given (e.0.0, f.0.0, f.0.1) f.1

-- what stands behind the block of a `try`: "finally" ":" block alone, or its handlers and then the two ends
unfoldable pub after_try : Reader → ℕ → Context → Stmts → List Lexeme → Read Lexeme Stmts
after_try inner room c b (token.Finally ∷ ts) = colon_block inner room (within_finally c) b.1 ts >>= λ f. given (tree.Try b.0 [] [] f.0.0 ∷ [], f.0.1) f.1
after_try inner room c b ts = handlers inner room c b.1 ts >>= λ h. try_ends inner room c h.0.next h.1 >>= λ e. given (tree.Try b.0 h.0.found e.0.0 e.0.1 ∷ [], e.0.2) e.1

-- ":" block and what follows it, behind "try"
unfoldable pub try_rest : Reader → ℕ → Context → ℕ → List Lexeme → Read Lexeme Stmts
try_rest inner room c n ts = colon_block inner room c n ts >>= λ b. after_try inner room c b.0 b.1

-- ---- `def`

-- the names so far, and whether another one may follow
abbrev pub Names : Type 0
Names = List (List ℕ) × Bool

-- a name that is none of these
abbrev pub fresh_by : Bool → List ℕ → List Lexeme → Read Lexeme (List ℕ)
fresh_by true n ts = refused (token.Name n ∷ ts)
fresh_by false n ts = given n ts

-- a NAME that is none of these: one of them is itself refused
unfoldable pub fresh : List (List ℕ) → List Lexeme → Read Lexeme (List ℕ)
fresh names (token.Name n ∷ ts) = fresh_by (is_among n names) n ts
fresh names ts = refused ts

-- a parameter that differs from those before it, and the comma behind it, if there is one
unfoldable pub parameter : Names → List Lexeme → Read Lexeme Names
parameter s ts = fresh s.0 ts >>= λ n. comma n.1 >>= λ c. given (s.0 ++ n.0 ∷ [], c.0) c.1

-- another parameter follows where a name is ahead, and there is none yet or a comma came last
abbrev pub begins_parameter : Names → Option Lexeme → Bool
begins_parameter s t = s.1 && name_ahead t

-- [ NAME { "," NAME } [ "," ] ], no two of them the same
unfoldable pub parameters : List Lexeme → Read Lexeme Names
parameters ts = rounds begins_parameter parameter ([], true) ts

-- another `global` line follows, whatever names came before
unfoldable pub global_ahead : List (List ℕ) → Option Lexeme → Bool
global_ahead s (Some token.Global) = true
global_ahead s t = false

-- "global" NAME { "," NAME } NEWLINE: no parameter is named so; the names come behind those of the lines before
unfoldable pub next_global : List (List ℕ) → List (List ℕ) → List Lexeme → Read Lexeme (List (List ℕ))
next_global names found (token.Global ∷ ts) = separated comma_ahead (fresh names) ts >>= λ ns. newline ns.1 >>= λ u. given (found ++ ns.0) u.1
next_global names found ts = refused ts

-- { "global" NAME { "," NAME } NEWLINE }
unfoldable pub globals : List (List ℕ) → List Lexeme → Read Lexeme (List (List ℕ))
globals names ts = rounds global_ahead (next_global names) [] ts

-- { "global" NAME { "," NAME } NEWLINE } stmt { stmt } DEDENT
unfoldable pub indented_body : Reader → List (List ℕ) → ℕ → List Lexeme → Read Lexeme (Body × ℕ)
indented_body inner names n ts = globals names ts >>= λ g. stmts_to_dedent inner within_function n g.1 >>= λ b. given (body g.0 b.0.0, b.0.1) b.1

-- body on lines of its own, behind its NEWLINE
unfoldable pub after_newline : Reader → List (List ℕ) → ℕ → List Lexeme → Read Lexeme (Body × ℕ)
after_newline inner names n ts = indent ts >>= λ u. indented_body inner names n u.1

-- body; loops and `finally` blocks around the `def` do not count in it
unfoldable pub function_body : Reader → ℕ → List (List ℕ) → ℕ → List Lexeme → Read Lexeme (Body × ℕ)
function_body inner room names n (token.Newline ∷ ts) = after_newline inner names n ts
function_body inner room names n ts = line_block within_function n room ts >>= λ b. given (body [] b.0.0, b.0.1) b.1

-- the parameters and the end of their bracket
unfoldable pub parameter_list : List Lexeme → Read Lexeme (List (List ℕ))
parameter_list ts = parameters ts >>= λ ps. close_paren ps.1 >>= λ u. given ps.0.0 u.1

-- a function's name and parameters
unfoldable pub signature : List Lexeme → Read Lexeme (List ℕ × List (List ℕ))
signature ts = name ts >>= λ f. open_paren f.1 >>= λ u. parameter_list u.1 >>= λ ps. given (f.0, ps.0) ps.1

-- the statement of the function with the number n, and the number of the first function behind its body
abbrev pub function : ℕ → List ℕ × List (List ℕ) → Body × ℕ → Stmts
function n f b = (tree.Def (record { number = n; name = f.0; parameters = f.1; globals = b.0.globals; body = b.0.stmts }) ∷ [], b.1)

-- NAME "(" parameters ")" ":" body, behind "def": the function has the number n, and those after it are numbered on
unfoldable pub def_rest : Reader → ℕ → ℕ → List Lexeme → Read Lexeme Stmts
def_rest inner room n ts = signature ts >>= λ f. colon f.1 >>= λ u. function_body inner room f.0.1 (suc n) u.1 >>= λ b. given (function n f.0 b.0) b.1

-- ---- statements

-- stmt: `if`, `while`, `try` and `def` open a level, and are too deep without one left; in a function `def` is refused
unfoldable pub stmt : ℕ → Context → ℕ → List Lexeme → Read Lexeme Stmts
stmt zero c n (token.If ∷ ts) = too_deep (token.If ∷ ts)
stmt (suc room) c n (token.If ∷ ts) = if_rest (stmt room) room c n ts
stmt zero c n (token.While ∷ ts) = too_deep (token.While ∷ ts)
stmt (suc room) c n (token.While ∷ ts) = while_rest (stmt room) room c n ts
stmt zero c n (token.Try ∷ ts) = too_deep (token.Try ∷ ts)
stmt (suc room) c n (token.Try ∷ ts) = try_rest (stmt room) room c n ts
stmt zero c n (token.Def ∷ ts) = if c.in_function then refused (token.Def ∷ ts) else too_deep (token.Def ∷ ts)
stmt (suc room) c n (token.Def ∷ ts) = if c.in_function then refused (token.Def ∷ ts) else def_rest (stmt room) room n ts
stmt room c n ts = line_block c n room ts

-- ---- scripts

-- END as the last token
unfoldable pub end : List Lexeme → Read Lexeme (Unit {0})
end [] = refused []
end (token.End ∷ []) = given tt []
end (token.End ∷ t ∷ ts) = refused (t ∷ ts)
end (t ∷ ts) = refused (t ∷ ts)

-- script := { stmt } END, with its functions numbered from 0 and so many levels open at most
unfoldable pub script : ℕ → List Lexeme → Read Lexeme Script
script room ts = rounds begins_stmt (next_stmt (stmt room) top) ([], 0) ts >>= λ s. end s.1 >>= λ u. given (record { body = s.0.0 }) u.1
