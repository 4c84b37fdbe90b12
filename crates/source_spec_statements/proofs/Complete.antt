-- Each statement that is spelled is read.
use Rattle.std.proofs.Common.{◌≡◌, ℕ, zero, suc, ◌+◌, ◌<◌, ◌&&◌, Bool, true, false, List, [], ◌∷◌, ◌++◌, length, Option, Some, None, Result, Ok, Err, refl, sym, ap, subst, ◌∙◌, append_assoc, append-nil, arith}
use Rattle.std.specs.Prelude.{if◌then◌else◌}
use Rattle.source_combinators.specs.Reading.{Read, ◌>>=◌, given, refused, head_of}
use Rattle.source_combinators.specs.Many.{rounds}
use Rattle.source_combinators.specs.Separated.{separated, next_item, IsSeparated}
use Rattle.source_combinators.proofs.Many.{Shrinks, shrinks, stopped, round_read}
use Rattle.source_combinators.proofs.Separated.{separated_rounds, complete_separated}
use Rattle.py_syntax.specs.declared.lexeme.Lexeme.{Lexeme}
use Rattle.py_syntax.specs.declared.lexeme.Lexeme.TheVariants as token
use Rattle.py_syntax.specs.declared.expr.Expr.{Expr}
use Rattle.py_syntax.specs.declared.expr.Spelled.{Spelled}
use Rattle.py_syntax.specs.declared.stmt.Stmt.{Stmt}
use Rattle.py_syntax.specs.declared.stmt.Stmt.TheVariants as tree
use Rattle.py_syntax.specs.declared.stmt.Branch.{Branch}
use Rattle.py_syntax.specs.declared.stmt.Handler.{Handler}
use Rattle.py_syntax.specs.declared.stmt.Script.{Script}
use Rattle.py_syntax.specs.declared.context.Context.{Context}
use Rattle.py_syntax.specs.Contexts.{top, within_loop, within_finally, within_function}
use Rattle.py_syntax.specs.Expressions.{IsExpr}
use Rattle.py_syntax.specs.Simple as simple
use Rattle.py_syntax.specs.Simple.{IsLine, IsBound}
use Rattle.py_syntax.specs.Statements as grammar
use Rattle.py_syntax.specs.Statements.{is_among, IsParameters, IsGlobal, IsGlobalLines, Body, body, IsStmt, IsStmts, IsBlock, IsBranch, IsElifs, IsElse, IsFinally, IsHandler, IsHandlers, IsBody}
use Rattle.py_syntax.specs.Grammar as scripts
use Rattle.py_syntax.specs.Grammar.{Spells}
use Rattle.source_spec_lines.specs.Expressions.{expr, comma, close_paren, strength, starts}
use Rattle.source_spec_lines.proofs.ExpressionFamilies.{chain_starts}
use Rattle.source_spec_lines.proofs.ExpressionComplete.{complete_expr}
use Rattle.source_spec_lines.specs.Lines.{name, name_ahead, comma_ahead, bound, line}
use Rattle.source_spec_lines.proofs.LineRight.{is_comma, no_comma_ahead}
use Rattle.source_spec_lines.proofs.LineComplete.{complete_line, bound_read}
use Rattle.source_spec_statements.specs.Reading.{Stmts, Reader, newline, colon, indent, dedent, open_paren, begins_stmt, stmt_ahead, next_stmt, stmts, line_block, stmts_to_dedent, indented, block, colon_block, branch_of, branch, elif_ahead, next_elif, branches, else_part, finally_part, if_rest, while_rest, Handlers, with_handler, except_ahead, begins_handler, caught, handler_rest, next_handler, handlers, try_ends, after_try, try_rest, Names, fresh_by, fresh, parameter, begins_parameter, parameters, global_ahead, next_global, globals, indented_body, after_newline, function_body, parameter_list, signature, function, def_rest, stmt, end, script}
use Rattle.source_spec_statements.proofs.Families.{grows_global}
use Rattle.source_spec_statements.proofs.Right.{stmt_rounds, elif_rounds}
use Rattle.source_spec_statements.proofs.Tries.{handler_rounds, handlers_by}
use Rattle.source_spec_statements.proofs.Defs.{parameter_rounds, global_rounds, right_fresh}
use Rattle.source_spec_statements.proofs.Scripts.{right_stmt}
use Rattle.source_spec_statements.proofs.Begins.{begins_line, ends_stmt, line_begins, Opens, stmt_opens, stmts_open, IsStop, at_dedent, at_end, stop_ahead, stop_ends, block_is_line, stmt_is_line, no_elif, no_except, no_else, no_finally}

abbrev pair : List Stmt → ℕ → Stmts
pair ss n = (ss, n)

-- ---- blocks

line_block_read : (c : Context) (n room : ℕ) (ts : List Lexeme) (ss : List Stmt) (rest : List Lexeme) → IsLine c room ts ss → line_block c n room ((ts ++ token.Newline ∷ []) ++ rest) ≡ given (pair ss n) rest
unfolding line_block newline
line_block_read c n room ts ss rest h = ap (line_block c n room) (append_assoc ts (token.Newline ∷ []) rest) ∙ rw (complete_line c room ts ss rest h) refl

line_begins_with : (c : Context) (room : ℕ) (ts : List Lexeme) (ss : List Stmt) (rest : List Lexeme) → IsLine c room ts ss → begins_line (head_of ((ts ++ token.Newline ∷ []) ++ rest)) ≡ true
line_begins_with c room ts ss rest h = ap (λ (l : List Lexeme). begins_line (head_of l)) (append_assoc ts (token.Newline ∷ []) rest) ∙ line_begins c room ts ss h (token.Newline ∷ rest)

abbrev stmt_loop : ℕ → Context → Stmts → List Lexeme → Read Lexeme Stmts
stmt_loop room c s ts = rounds begins_stmt (next_stmt (stmt room) c) s ts

stmt_shrinks : (room : ℕ) (c : Context) → Shrinks begins_stmt (next_stmt (stmt room) c)
stmt_shrinks room c = shrinks (stmt_rounds (stmt room) room (right_stmt room) c)

-- one statement more
next_read : (room : ℕ) (c : Context) (s x : Stmts) (us rest : List Lexeme) → stmt_ahead (head_of us) ≡ true → stmt room c s.1 us ≡ given x rest → stmt_loop room c s us ≡ stmt_loop room c (pair (s.0 ++ x.0) x.1) rest
unfolding next_stmt
next_read room c s x us rest a h = round_read begins_stmt (next_stmt (stmt room) c) (stmt_shrinks room c) s (pair (s.0 ++ x.0) x.1) us rest a (rw h refl)

stmts_stop : (room : ℕ) (c : Context) (s : Stmts) (rest : List Lexeme) → IsStop rest → stmt_loop room c s rest ≡ given s rest
stmts_stop room c s rest e = stopped begins_stmt (next_stmt (stmt room) c) (length rest) s rest (stop_ahead e)

first_read : (room : ℕ) (c : Context) (n : ℕ) (x y : Stmts) (us vs rest : List Lexeme) → stmt room c n us ≡ given x vs → stmt_loop room c x vs ≡ given y rest → stmts (stmt room) c n us ≡ given y rest
unfolding stmts
first_read room c n x y us vs rest h k = rw h k

indented_read : (room : ℕ) (c : Context) (n : ℕ) (ts rest : List Lexeme) (x : Stmts) → stmts (stmt room) c n (ts ++ token.Dedent ∷ rest) ≡ given x (token.Dedent ∷ rest) → block (stmt room) room c n ((token.Newline ∷ token.Indent ∷ (ts ++ token.Dedent ∷ [])) ++ rest) ≡ given x rest
unfolding block indented indent stmts_to_dedent dedent
indented_read room c n ts rest x h = rw (append_assoc ts (token.Dedent ∷ []) rest) (rw h refl)

-- ---- `if` and `while`

colon_ends : (us : List Lexeme) → strength (head_of (token.Colon ∷ us)) < 1
unfolding strength
colon_ends us = omega arith

branch_read : (room : ℕ) (c : Context) (n : ℕ) (xs us rest : List Lexeme) (e : Spelled) (b : Stmts) → IsExpr room xs e → block (stmt room) room c n us ≡ given b rest → branch (stmt room) room c n (xs ++ token.Colon ∷ us) ≡ given (branch_of e.tree b) rest
unfolding branch colon_block colon
branch_read room c n xs us rest e b h k = rw (complete_expr h (token.Colon ∷ us) (colon_ends us)) (rw k refl)

abbrev Branches : Type 0
Branches = List Branch × ℕ

abbrev branches_by : List Branch → ℕ → Branches
branches_by bs n = (bs, n)

abbrev elif_loop : ℕ → Context → Branches → List Lexeme → Read Lexeme Branches
elif_loop room c s ts = rounds elif_ahead (next_elif (stmt room) room c) s ts

elif_read : (room : ℕ) (c : Context) (s : Branches) (b : Branch × ℕ) (us rest : List Lexeme) → branch (stmt room) room c s.1 us ≡ given b rest → elif_loop room c s (token.Elif ∷ us) ≡ elif_loop room c (branches_by (s.0 ++ b.0 ∷ []) b.1) rest
unfolding next_elif elif_ahead
elif_read room c s b us rest h = round_read elif_ahead (next_elif (stmt room) room c) (shrinks (elif_rounds (stmt room) room (right_stmt room) c)) s (branches_by (s.0 ++ b.0 ∷ []) b.1) (token.Elif ∷ us) rest refl (rw h refl)

elifs_stop : (room : ℕ) (c : Context) (s : Branches) (rest : List Lexeme) → elif_ahead s (head_of rest) ≡ false → elif_loop room c s rest ≡ given s rest
elifs_stop room c s rest e = stopped elif_ahead (next_elif (stmt room) room c) (length rest) s rest e

-- neither `else` nor what follows it is an `elif`
else_no_elif : {c : Context} {n room : ℕ} {ts : List Lexeme} {ss : Stmts} → IsElse c n room ts ss → (s : Branches) (rest : List Lexeme) → ends_stmt (head_of rest) ≡ true → elif_ahead s (head_of (ts ++ rest)) ≡ false
unfolding elif_ahead
else_no_elif grammar.no_else s rest e = no_elif s (head_of rest) e
else_no_elif (grammar.else_block h) s rest e = refl

if_read : (room : ℕ) (c : Context) (n : ℕ) (us vs ws rest : List Lexeme) (b : Branch × ℕ) (bs : Branches) (ss : Stmts) → branch (stmt room) room c n us ≡ given b vs → elif_loop room c (branches_by (b.0 ∷ []) b.1) vs ≡ given bs ws → else_part (stmt room) room c bs.1 ws ≡ given ss rest → stmt (suc room) c n (token.If ∷ us) ≡ given (pair (tree.If bs.0 ss.0 ∷ []) ss.1) rest
unfolding stmt if_rest branches
if_read room c n us vs ws rest b bs ss h k q = rw h (rw k (rw q refl))

while_read : (room : ℕ) (c : Context) (n : ℕ) (us rest : List Lexeme) (b : Branch × ℕ) → branch (stmt room) room (within_loop c) n us ≡ given b rest → stmt (suc room) c n (token.While ∷ us) ≡ given (pair (tree.While b.0.test b.0.body ∷ []) b.1) rest
unfolding stmt while_rest
while_read room c n us rest b h = rw h refl

else_read : (room : ℕ) (c : Context) (n : ℕ) (us rest : List Lexeme) (x : Stmts) → block (stmt room) room c n us ≡ given x rest → else_part (stmt room) room c n (token.Else ∷ token.Colon ∷ us) ≡ given x rest
unfolding else_part colon_block colon
else_read room c n us rest x h = h

finally_read : (room : ℕ) (c : Context) (n : ℕ) (us rest : List Lexeme) (x : Stmts) → block (stmt room) room (within_finally c) n us ≡ given x rest → finally_part (stmt room) room c n (token.Finally ∷ token.Colon ∷ us) ≡ given x rest
unfolding finally_part colon_block colon
finally_read room c n us rest x h = h

-- ---- `try`

abbrev handler_loop : ℕ → Context → Handlers → List Lexeme → Read Lexeme Handlers
handler_loop room c s ts = rounds begins_handler (next_handler (stmt room) room c) s ts

handler_shrinks : (room : ℕ) (c : Context) → Shrinks begins_handler (next_handler (stmt room) room c)
handler_shrinks room c = shrinks (handler_rounds (stmt room) room (right_stmt room) c)

abbrev open_handlers : List Handler → ℕ → Handlers
open_handlers found n = handlers_by found n true

colon_no_as : (us : List Lexeme) → bound (token.Colon ∷ us) ≡ given None (token.Colon ∷ us)
unfolding bound
colon_no_as us = refl

bound_ends : {room : ℕ} {ts : List Lexeme} {b : Option (List ℕ)} → IsBound room ts b → (us : List Lexeme) → strength (head_of (ts ++ token.Colon ∷ us)) < 1
unfolding strength
bound_ends simple.own_name us = omega arith
bound_ends (simple.bound n) us = omega arith

-- an expression begins with no colon
named_rest : (inner : Reader) (room : ℕ) (c : Context) (s : Handlers) (us : List Lexeme) → starts (head_of us) ≡ true → handler_rest inner room c s us ≡ (caught room us >>= λ k. colon_block inner room c s.next k.1 >>= λ b. given (with_handler s.found (Some k.0.0) k.0.1 b.0 true) b.1)
unfolding handler_rest starts
named_rest inner room c s [] e = refl
named_rest inner room c s (token.Colon ∷ us) e = absurd cc
named_rest inner room c s (t ∷ us) e = refl

caught_read : (room : ℕ) (xs ys us : List Lexeme) (e : Spelled) (b : Option (List ℕ)) → IsExpr room xs e → IsBound room ys b → caught room (xs ++ (ys ++ token.Colon ∷ us)) ≡ given (e.tree, b) (token.Colon ∷ us)
unfolding caught
caught_read room xs ys us e b h k = rw (complete_expr h (ys ++ token.Colon ∷ us) (bound_ends k us)) (rw (bound_read room ys b k (token.Colon ∷ us) (colon_no_as us)) refl)

handler_read : (room : ℕ) (c : Context) (found : List Handler) (n : ℕ) (xs ys us rest : List Lexeme) (e : Spelled) (b : Option (List ℕ)) (x : Stmts) → IsExpr room xs e → IsBound room ys b → block (stmt room) room c n us ≡ given x rest → next_handler (stmt room) room c (open_handlers found n) (token.Except ∷ (xs ++ (ys ++ token.Colon ∷ us))) ≡ given (with_handler found (Some e.tree) b x true) rest
unfolding next_handler colon_block colon
handler_read room c found n xs ys us rest e b x h k q =
    named_rest (stmt room) room c (open_handlers found n) (xs ++ (ys ++ token.Colon ∷ us)) (chain_starts h (ys ++ token.Colon ∷ us))
    ∙ rw (caught_read room xs ys us e b h k) (rw q refl)

all_read : (room : ℕ) (c : Context) (found : List Handler) (n : ℕ) (us rest : List Lexeme) (x : Stmts) → block (stmt room) room c n us ≡ given x rest → next_handler (stmt room) room c (open_handlers found n) (token.Except ∷ token.Colon ∷ us) ≡ given (with_handler found None None x false) rest
unfolding next_handler handler_rest
all_read room c found n us rest x h = rw h refl

handler_round : (room : ℕ) (c : Context) (found : List Handler) (n : ℕ) (t : Handlers) (us rest : List Lexeme) → next_handler (stmt room) room c (open_handlers found n) (token.Except ∷ us) ≡ given t rest → handler_loop room c (open_handlers found n) (token.Except ∷ us) ≡ handler_loop room c t rest
unfolding except_ahead
handler_round room c found n t us rest h = round_read begins_handler (next_handler (stmt room) room c) (handler_shrinks room c) (open_handlers found n) t (token.Except ∷ us) rest refl h

handlers_stop : (room : ℕ) (c : Context) (found : List Handler) (n : ℕ) (o : Bool) (rest : List Lexeme) → except_ahead (head_of rest) ≡ false → handler_loop room c (handlers_by found n o) rest ≡ given (handlers_by found n o) rest
handlers_stop room c found n true rest e = stopped begins_handler (next_handler (stmt room) room c) (length rest) (handlers_by found n true) rest e
handlers_stop room c found n false rest e = stopped begins_handler (next_handler (stmt room) room c) (length rest) (handlers_by found n false) rest refl

first_handler : (room : ℕ) (c : Context) (n : ℕ) (s t : Handlers) (us vs rest : List Lexeme) → next_handler (stmt room) room c (open_handlers [] n) us ≡ given s vs → handler_loop room c s vs ≡ given t rest → handlers (stmt room) room c n us ≡ given t rest
unfolding handlers
first_handler room c n s t us vs rest h k = rw h k

ends_read : (room : ℕ) (c : Context) (n : ℕ) (us vs rest : List Lexeme) (e f : Stmts) → else_part (stmt room) room c n us ≡ given e vs → finally_part (stmt room) room c e.1 vs ≡ given f rest → try_ends (stmt room) room c n us ≡ given (e.0, f.0, f.1) rest
unfolding try_ends
ends_read room c n us vs rest e f h k = rw h (rw k refl)

try_finally_read : (room : ℕ) (c : Context) (n : ℕ) (us vs rest : List Lexeme) (b f : Stmts) → block (stmt room) room c n us ≡ given b (token.Finally ∷ token.Colon ∷ vs) → block (stmt room) room (within_finally c) b.1 vs ≡ given f rest → stmt (suc room) c n (token.Try ∷ token.Colon ∷ us) ≡ given (pair (tree.Try b.0 [] [] f.0 ∷ []) f.1) rest
unfolding stmt try_rest colon_block colon after_try
try_finally_read room c n us vs rest b f h k = rw h (rw k refl)

after_block : (inner : Reader) (room : ℕ) (c : Context) (b : Stmts) (us : List Lexeme) → except_ahead (head_of us) ≡ true → after_try inner room c b us ≡ (handlers inner room c b.1 us >>= λ h. try_ends inner room c h.0.next h.1 >>= λ e. given (pair (tree.Try b.0 h.0.found e.0.0 e.0.1 ∷ []) e.0.2) e.1)
unfolding after_try except_ahead
after_block inner room c b [] e = refl
after_block inner room c b (token.Finally ∷ us) e = absurd cc
after_block inner room c b (t ∷ us) e = refl

try_except_read : (room : ℕ) (c : Context) (n : ℕ) (us vs ws rest : List Lexeme) (b : Stmts) (hs : Handlers) (e : List Stmt × List Stmt × ℕ) → block (stmt room) room c n us ≡ given b vs → except_ahead (head_of vs) ≡ true → handlers (stmt room) room c b.1 vs ≡ given hs ws → try_ends (stmt room) room c hs.next ws ≡ given e rest → stmt (suc room) c n (token.Try ∷ token.Colon ∷ us) ≡ given (pair (tree.Try b.0 hs.found e.0 e.1 ∷ []) e.2) rest
unfolding stmt try_rest colon_block colon
try_except_read room c n us vs ws rest b hs e h a k q = rw h (after_block (stmt room) room c b vs a ∙ rw k (rw q refl))

handlers_begin : {c : Context} {n room : ℕ} {ts : List Lexeme} {hs : List Handler × ℕ} → IsHandlers c n room ts hs → (rest : List Lexeme) → except_ahead (head_of (ts ++ rest)) ≡ true
unfolding except_ahead
handlers_begin (grammar.last_handler (grammar.handler h k q)) rest = refl
handlers_begin (grammar.takes_all h) rest = refl
handlers_begin (grammar.more_handlers (grammar.handler h k q) r) rest = refl

-- behind handlers stands none
else_no_except : {c : Context} {n room : ℕ} {ts : List Lexeme} {ss : Stmts} → IsElse c n room ts ss → (rest : List Lexeme) → except_ahead (head_of rest) ≡ false → except_ahead (head_of (ts ++ rest)) ≡ false
unfolding except_ahead
else_no_except grammar.no_else rest e = e
else_no_except (grammar.else_block h) rest e = refl

finally_no_except : {c : Context} {n room : ℕ} {ts : List Lexeme} {ss : Stmts} → IsFinally c n room ts ss → (rest : List Lexeme) → ends_stmt (head_of rest) ≡ true → except_ahead (head_of (ts ++ rest)) ≡ false
unfolding except_ahead
finally_no_except grammar.no_finally rest e = no_except (head_of rest) e
finally_no_except (grammar.finally_block h) rest e = refl

-- behind a `try` without `else` stands none
finally_no_else : {c : Context} {n room : ℕ} {ts : List Lexeme} {ss : Stmts} → IsFinally c n room ts ss → (inner : Reader) (k : ℕ) (d : Context) (m : ℕ) (rest : List Lexeme) → ends_stmt (head_of rest) ≡ true → else_part inner k d m (ts ++ rest) ≡ given (pair [] m) (ts ++ rest)
unfolding else_part
finally_no_else grammar.no_finally inner k d m rest e = no_else inner k d m rest e
finally_no_else (grammar.finally_block h) inner k d m rest e = refl

-- ---- `def`

abbrev names_by : List (List ℕ) → Bool → Names
names_by found is_open = (found, is_open)

abbrev parameter_loop : Names → List Lexeme → Read Lexeme Names
parameter_loop s ts = rounds begins_parameter parameter s ts

parameters_stop : (found : List (List ℕ)) (o : Bool) (rest : List Lexeme) → parameter_loop (names_by found o) (token.CloseParen ∷ rest) ≡ given (names_by found o) (token.CloseParen ∷ rest)
unfolding name_ahead
parameters_stop found true rest = stopped begins_parameter parameter (length (token.CloseParen ∷ rest)) (names_by found true) (token.CloseParen ∷ rest) refl
parameters_stop found false rest = stopped begins_parameter parameter (length (token.CloseParen ∷ rest)) (names_by found false) (token.CloseParen ∷ rest) refl

parameter_round : (found : List (List ℕ)) (n : List ℕ) (b : Bool) (us rest : List Lexeme) → is_among n found ≡ false → comma us ≡ given b rest → parameter_loop (names_by found true) (token.Name n ∷ us) ≡ parameter_loop (names_by (found ++ n ∷ []) b) rest
unfolding name_ahead parameter fresh
parameter_round found n b us rest e k = round_read begins_parameter parameter (shrinks (parameter_rounds 0)) (names_by found true) (names_by (found ++ n ∷ []) b) (token.Name n ∷ us) rest refl (rw e (rw k refl))

close_no_comma : (rest : List Lexeme) → comma (token.CloseParen ∷ rest) ≡ given false (token.CloseParen ∷ rest)
unfolding comma
close_no_comma rest = refl

comma_there : (rest : List Lexeme) → comma (token.Comma ∷ rest) ≡ given true rest
unfolding comma
comma_there rest = refl

parameters_from : {found : List (List ℕ)} {room : ℕ} {ts : List Lexeme} {s : Names} → IsParameters found room ts s → (rest : List Lexeme) → parameter_loop (names_by found true) (ts ++ token.CloseParen ∷ rest) ≡ given s (token.CloseParen ∷ rest)
parameters_from (grammar.no_parameters {found = found}) rest = parameters_stop found true rest
parameters_from (grammar.last_parameter {found = found} n e) rest = parameter_round found n false (token.CloseParen ∷ rest) (token.CloseParen ∷ rest) e (close_no_comma rest) ∙ parameters_stop (found ++ n ∷ []) false rest
parameters_from (grammar.next_parameter {found = found} {ts = us} n e k) rest = parameter_round found n true (token.Comma ∷ (us ++ token.CloseParen ∷ rest)) (us ++ token.CloseParen ∷ rest) e (comma_there (us ++ token.CloseParen ∷ rest)) ∙ parameters_from k rest

signature_read : (f : List ℕ) (room : ℕ) (ts : List Lexeme) (s : Names) (rest : List Lexeme) → IsParameters [] room ts s → signature (token.Name f ∷ token.OpenParen ∷ (ts ++ token.CloseParen ∷ rest)) ≡ given (f, s.0) rest
unfolding signature name open_paren parameter_list parameters close_paren
signature_read f room ts s rest h = rw (parameters_from h rest) refl

global_read : (names : List (List ℕ)) (ts : List Lexeme) (n : List ℕ) (room : ℕ) (rest : List Lexeme) → IsGlobal names room ts n → fresh names (ts ++ rest) ≡ given n rest
unfolding fresh
global_read names ts n room rest (grammar.global m e) = rw e refl

global_shrinks : (names : List (List ℕ)) → Shrinks (λ found. comma_ahead) (next_item (fresh names))
global_shrinks names = shrinks (separated_rounds token.Comma (IsGlobal names) (fresh names) comma_ahead 0 is_comma no_comma_ahead (grows_global names) (right_fresh names 0))

comma_begins : comma_ahead (Some token.Comma) ≡ true
unfolding comma_ahead
comma_begins = refl

newline_no_comma : (rest : List Lexeme) → comma_ahead (head_of (token.Newline ∷ rest)) ≡ false
unfolding comma_ahead
newline_no_comma rest = refl

global_names_read : (names : List (List ℕ)) (room : ℕ) (ts : List Lexeme) (ns : List (List ℕ)) → IsSeparated token.Comma (IsGlobal names) room ts ns → (rest : List Lexeme) → separated comma_ahead (fresh names) (ts ++ token.Newline ∷ rest) ≡ given ns (token.Newline ∷ rest)
global_names_read names room ts ns h rest = complete_separated token.Comma (IsGlobal names) (fresh names) comma_ahead room (λ l. Unit {0}) (global_shrinks names) comma_begins (λ l. tt) (λ us n more k q. global_read names us n room more k) h (token.Newline ∷ rest) tt (newline_no_comma rest)

abbrev global_loop : List (List ℕ) → List (List ℕ) → List Lexeme → Read Lexeme (List (List ℕ))
global_loop names found ts = rounds global_ahead (next_global names) found ts

global_round : (names found ns : List (List ℕ)) (us rest : List Lexeme) → separated comma_ahead (fresh names) us ≡ given ns (token.Newline ∷ rest) → global_loop names found (token.Global ∷ us) ≡ global_loop names (found ++ ns) rest
unfolding next_global global_ahead newline
global_round names found ns us rest h = round_read global_ahead (next_global names) (shrinks (global_rounds names 0)) found (found ++ ns) (token.Global ∷ us) rest refl (rw h refl)

globals_from : {names ns : List (List ℕ)} {room : ℕ} {ts : List Lexeme} → IsGlobalLines names room ts ns → (found : List (List ℕ)) (rest : List Lexeme) → ((l : List (List ℕ)) → global_ahead l (head_of rest) ≡ false) → global_loop names found (ts ++ rest) ≡ given (found ++ ns) rest
globals_from (grammar.no_globals {parameters = names}) found rest e = stopped global_ahead (next_global names) (length rest) found rest (e found) ∙ ap (λ (l : List (List ℕ)). given l rest) (sym (append-nil found))
globals_from (grammar.global_line {parameters = names} {ns = ns} {ms = ms} {room = room} {ts = ts} {us = us} h k) found rest e =
    ap (λ (l : List Lexeme). global_loop names found (token.Global ∷ l)) (append_assoc ts (token.Newline ∷ us) rest)
    ∙ global_round names found ns (ts ++ token.Newline ∷ (us ++ rest)) (us ++ rest) (global_names_read names room ts ns h (us ++ rest))
    ∙ globals_from k (found ++ ns) rest e
    ∙ ap (λ (l : List (List ℕ)). given l rest) (append_assoc found ns ms)

globals_read : (names ns : List (List ℕ)) (room : ℕ) (ts : List Lexeme) (rest : List Lexeme) → IsGlobalLines names room ts ns → ((l : List (List ℕ)) → global_ahead l (head_of rest) ≡ false) → globals names (ts ++ rest) ≡ given ns rest
unfolding globals
globals_read names ns room ts rest h e = globals_from h [] rest e

body_is_line : (inner : Reader) (room : ℕ) (names : List (List ℕ)) (n : ℕ) (us : List Lexeme) → begins_line (head_of us) ≡ true → function_body inner room names n us ≡ (line_block within_function n room us >>= λ b. given (body [] b.0.0, b.0.1) b.1)
unfolding begins_line function_body
body_is_line inner room names n [] e = refl
body_is_line inner room names n (token.Newline ∷ us) e = absurd cc
body_is_line inner room names n (t ∷ us) e = refl

abbrev body_of : List (List ℕ) → Stmts → Body × ℕ
body_of gs b = (body gs b.0, b.1)

line_body_read : (room : ℕ) (names : List (List ℕ)) (n : ℕ) (ts rest : List Lexeme) (ss : List Stmt) → IsLine within_function room ts ss → function_body (stmt room) room names n ((ts ++ token.Newline ∷ []) ++ rest) ≡ given (body_of [] (pair ss n)) rest
line_body_read room names n ts rest ss h =
    body_is_line (stmt room) room names n ((ts ++ token.Newline ∷ []) ++ rest) (line_begins_with within_function room ts ss rest h)
    ∙ rw (line_block_read within_function n room ts ss rest h) refl

indented_body_read : (room : ℕ) (names gs : List (List ℕ)) (n : ℕ) (xs ys rest : List Lexeme) (b : Stmts) → globals names (xs ++ (ys ++ token.Dedent ∷ rest)) ≡ given gs (ys ++ token.Dedent ∷ rest) → stmts (stmt room) within_function n (ys ++ token.Dedent ∷ rest) ≡ given b (token.Dedent ∷ rest) → function_body (stmt room) room names n ((token.Newline ∷ token.Indent ∷ (xs ++ (ys ++ token.Dedent ∷ []))) ++ rest) ≡ given (body_of gs b) rest
unfolding function_body after_newline indent indented_body stmts_to_dedent dedent
indented_body_read room names gs n xs ys rest b h k =
    ap (λ (l : List Lexeme). function_body (stmt room) room names n (token.Newline ∷ token.Indent ∷ l)) (append_assoc xs (ys ++ token.Dedent ∷ []) rest ∙ ap (λ (l : List Lexeme). xs ++ l) (append_assoc ys (token.Dedent ∷ []) rest))
    ∙ rw h (rw k refl)

def_read : (room : ℕ) (c : Context) (n : ℕ) (us vs rest : List Lexeme) (f : List ℕ × List (List ℕ)) (b : Body × ℕ) → c.in_function ≡ false → signature us ≡ given f (token.Colon ∷ vs) → function_body (stmt room) room f.1 (suc n) vs ≡ given b rest → stmt (suc room) c n (token.Def ∷ us) ≡ given (function n f b) rest
unfolding stmt def_rest colon
def_read room c n us vs rest f b e h k = rw e (rw h (rw k refl))

-- a handler that is read, and then the others
handler_round_by : {c : Context} {n room : ℕ} {ts : List Lexeme} {h : Handler × ℕ} → IsHandler c n room ts h → (found : List Handler) (rest : List Lexeme) → next_handler (stmt room) room c (open_handlers found n) (ts ++ rest) ≡ given (open_handlers (found ++ h.0 ∷ []) h.1) rest → handler_loop room c (open_handlers found n) (ts ++ rest) ≡ handler_loop room c (open_handlers (found ++ h.0 ∷ []) h.1) rest
handler_round_by (grammar.handler {c = c} {n = n} {m = m} {room = room} {xs = xs} {ys = ys} {zs = zs} {e = e} {as_name = b} {ss = ss} h k q) found rest r =
    handler_round room c found n (open_handlers (found ++ (record { kinds = Some e.tree; bound = b; body = ss }) ∷ []) m) ((xs ++ (ys ++ token.Colon ∷ zs)) ++ rest) rest r

-- ---- all forms

mutual
  pub complete_stmt : {c : Context} {n room : ℕ} {ts : List Lexeme} {x : Stmts} → IsStmt c n room ts x → (rest : List Lexeme) → ends_stmt (head_of rest) ≡ true → stmt room c n (ts ++ rest) ≡ given x rest
  complete_stmt (grammar.on_line {c = c} {n = n} {room = room} {ts = ts} {ss = ss} h) rest e =
      stmt_is_line room c n ((ts ++ token.Newline ∷ []) ++ rest) (line_begins_with c room ts ss rest h) ∙ line_block_read c n room ts ss rest h
  complete_stmt (grammar.if_stmt {c = c} {n = n} {m = m} {k = k} {room = room} {xs = xs} {ys = ys} {zs = zs} {b = b} {bs = bs} {ss = ss} h q r) rest e =
      ap (λ (l : List Lexeme). stmt (suc room) c n (token.If ∷ l)) (append_assoc xs (ys ++ zs) rest ∙ ap (λ (l : List Lexeme). xs ++ l) (append_assoc ys zs rest))
      ∙ if_read room c n (xs ++ (ys ++ (zs ++ rest))) (ys ++ (zs ++ rest)) (zs ++ rest) rest (b, m) (branches_by (b ∷ bs) k) (pair ss _)
      (complete_branch h (ys ++ (zs ++ rest)))
      (complete_elifs q (b ∷ []) (zs ++ rest) (λ s. else_no_elif r s rest e))
      (complete_else r rest e)
  complete_stmt (grammar.while_stmt {c = c} {n = n} {m = m} {room = room} {ts = ts} {b = b} h) rest e = while_read room c n (ts ++ rest) rest (b, m) (complete_branch h rest)
  complete_stmt (grammar.try_finally {c = c} {n = n} {m = m} {k = k} {room = room} {xs = xs} {ys = ys} {ss = ss} {fs = fs} h q) rest e =
      ap (λ (l : List Lexeme). stmt (suc room) c n (token.Try ∷ token.Colon ∷ l)) (append_assoc xs (token.Finally ∷ token.Colon ∷ ys) rest)
      ∙ try_finally_read room c n (xs ++ token.Finally ∷ token.Colon ∷ (ys ++ rest)) (ys ++ rest) rest (pair ss m) (pair fs k) (complete_block h (token.Finally ∷ token.Colon ∷ (ys ++ rest))) (complete_block q rest)
  complete_stmt (grammar.try_except {c = c} {n = n} {m = m} {k = k} {l = l} {p = p} {room = room} {xs = xs} {hs = hs} {ys = ys} {zs = zs} {ss = ss} {es = es} {fs = fs} {handlers = handlers_found} h q r w) rest e =
      let behind = complete_handlers q (ys ++ (zs ++ rest)) (else_no_except r (zs ++ rest) (finally_no_except w rest e)) in
      ap (λ (z : List Lexeme). stmt (suc room) c n (token.Try ∷ token.Colon ∷ z)) (append_assoc xs (hs ++ (ys ++ zs)) rest ∙ ap (λ (z : List Lexeme). xs ++ z) (append_assoc hs (ys ++ zs) rest ∙ ap (λ (z : List Lexeme). hs ++ z) (append_assoc ys zs rest)))
      ∙ try_except_read room c n (xs ++ (hs ++ (ys ++ (zs ++ rest)))) (hs ++ (ys ++ (zs ++ rest))) (ys ++ (zs ++ rest)) rest (pair ss m) (handlers_by handlers_found k behind.0) (es, fs, p)
      (complete_block h (hs ++ (ys ++ (zs ++ rest))))
      (handlers_begin q (ys ++ (zs ++ rest)))
      (behind.1)
      (ends_read room c k (ys ++ (zs ++ rest)) (zs ++ rest) rest (pair es l) (pair fs p) (complete_else_before r (zs ++ rest) (λ f d. finally_no_else w f room d k rest e)) (complete_finally w rest e))
  complete_stmt (grammar.def_stmt {c = c} {n = n} {m = m} {room = room} {ts = ts} {us = us} {parameters = ps} {is_open = o} {b = b} name f h k) rest e =
      ap (λ (l : List Lexeme). stmt (suc room) c n (token.Def ∷ token.Name name ∷ token.OpenParen ∷ l)) (append_assoc ts (token.CloseParen ∷ token.Colon ∷ us) rest)
      ∙ def_read room c n (token.Name name ∷ token.OpenParen ∷ (ts ++ token.CloseParen ∷ token.Colon ∷ (us ++ rest))) (us ++ rest) rest (name, ps) (b, m) f (signature_read name room ts (names_by ps o) (token.Colon ∷ (us ++ rest)) h) (complete_body k rest)

  -- statements behind those that are read already
  pub complete_stmts : {c : Context} {n room : ℕ} {ts : List Lexeme} {x : Stmts} → IsStmts c n room ts x → (found : List Stmt) (rest : List Lexeme) → IsStop rest → stmt_loop room c (pair found n) (ts ++ rest) ≡ given (pair (found ++ x.0) x.1) rest
  complete_stmts (grammar.last_stmt {c = c} {n = n} {room = room} {ts = ts} {ss = x} h) found rest e =
      let o = stmt_opens h rest in
      next_read room c (pair found n) x (ts ++ rest) rest o.ahead (complete_stmt h rest (stop_ends e)) ∙ stmts_stop room c (pair (found ++ x.0) x.1) rest e
  complete_stmts (grammar.more_stmts {c = c} {n = n} {m = m} {k = k} {room = room} {xs = xs} {ys = ys} {ss = ss} {rs = rs} h q) found rest e =
      let o = stmt_opens h (ys ++ rest) in
      let p = stmts_open q rest in
      ap (stmt_loop room c (pair found n)) (append_assoc xs ys rest)
      ∙ next_read room c (pair found n) (pair ss m) (xs ++ (ys ++ rest)) (ys ++ rest) o.ahead (complete_stmt h (ys ++ rest) p.ends)
      ∙ complete_stmts q (found ++ ss) rest e
      ∙ ap (λ (l : List Stmt). given (pair l k) rest) (append_assoc found ss rs)

  pub complete_first : {c : Context} {n room : ℕ} {ts : List Lexeme} {x : Stmts} → IsStmts c n room ts x → (rest : List Lexeme) → IsStop rest → stmts (stmt room) c n (ts ++ rest) ≡ given x rest
  complete_first (grammar.last_stmt {c = c} {n = n} {room = room} {ts = ts} {ss = x} h) rest e = first_read room c n x x (ts ++ rest) rest rest (complete_stmt h rest (stop_ends e)) (stmts_stop room c x rest e)
  complete_first (grammar.more_stmts {c = c} {n = n} {m = m} {k = k} {room = room} {xs = xs} {ys = ys} {ss = ss} {rs = rs} h q) rest e =
      let p = stmts_open q rest in
      ap (stmts (stmt room) c n) (append_assoc xs ys rest)
      ∙ first_read room c n (pair ss m) (pair (ss ++ rs) k) (xs ++ (ys ++ rest)) (ys ++ rest) rest (complete_stmt h (ys ++ rest) p.ends) (complete_stmts q ss rest e)

  pub complete_block : {c : Context} {n room : ℕ} {ts : List Lexeme} {x : Stmts} → IsBlock c n room ts x → (rest : List Lexeme) → block (stmt room) room c n (ts ++ rest) ≡ given x rest
  complete_block (grammar.line_block {c = c} {n = n} {room = room} {ts = ts} {ss = ss} h) rest = block_is_line (stmt room) room c n ((ts ++ token.Newline ∷ []) ++ rest) (line_begins_with c room ts ss rest h) ∙ line_block_read c n room ts ss rest h
  complete_block (grammar.indented {c = c} {n = n} {room = room} {ts = ts} {ss = x} h) rest = indented_read room c n ts rest x (complete_first h (token.Dedent ∷ rest) (at_dedent rest))

  complete_branch : {c : Context} {n room : ℕ} {ts : List Lexeme} {b : Branch × ℕ} → IsBranch c n room ts b → (rest : List Lexeme) → branch (stmt room) room c n (ts ++ rest) ≡ given b rest
  complete_branch (grammar.branch {c = c} {n = n} {m = m} {room = room} {xs = xs} {ys = ys} {e = e} {ss = ss} h k) rest =
      ap (branch (stmt room) room c n) (append_assoc xs (token.Colon ∷ ys) rest) ∙ branch_read room c n xs (ys ++ rest) rest e (pair ss m) h (complete_block k rest)

  complete_elifs : {c : Context} {n room : ℕ} {ts : List Lexeme} {bs : Branches} → IsElifs c n room ts bs → (found : List Branch) (rest : List Lexeme) → ((s : Branches) → elif_ahead s (head_of rest) ≡ false) → elif_loop room c (branches_by found n) (ts ++ rest) ≡ given (branches_by (found ++ bs.0) bs.1) rest
  complete_elifs (grammar.no_elif {c = c} {n = n} {room = room}) found rest e = elifs_stop room c (branches_by found n) rest (e (branches_by found n)) ∙ ap (λ (l : List Branch). given (branches_by l n) rest) (sym (append-nil found))
  complete_elifs (grammar.elif {c = c} {n = n} {m = m} {k = k} {room = room} {xs = xs} {ys = ys} {b = b} {bs = bs} h q) found rest e =
      ap (λ (l : List Lexeme). elif_loop room c (branches_by found n) (token.Elif ∷ l)) (append_assoc xs ys rest)
      ∙ elif_read room c (branches_by found n) (b, m) (xs ++ (ys ++ rest)) (ys ++ rest) (complete_branch h (ys ++ rest))
      ∙ complete_elifs q (found ++ b ∷ []) rest e
      ∙ ap (λ (l : List Branch). given (branches_by l k) rest) (append_assoc found (b ∷ []) bs)

  complete_else : {c : Context} {n room : ℕ} {ts : List Lexeme} {x : Stmts} → IsElse c n room ts x → (rest : List Lexeme) → ends_stmt (head_of rest) ≡ true → else_part (stmt room) room c n (ts ++ rest) ≡ given x rest
  complete_else (grammar.no_else {c = c} {n = n} {room = room}) rest e = no_else (stmt room) room c n rest e
  complete_else (grammar.else_block {c = c} {n = n} {room = room} {ts = ts} {ss = x} h) rest e = else_read room c n (ts ++ rest) rest x (complete_block h rest)

  -- before what begins no `else`
  complete_else_before : {c : Context} {n room : ℕ} {ts : List Lexeme} {x : Stmts} → IsElse c n room ts x → (rest : List Lexeme) → ((f : Reader) (d : Context) → else_part f room d n rest ≡ given (pair [] n) rest) → else_part (stmt room) room c n (ts ++ rest) ≡ given x rest
  complete_else_before (grammar.no_else {c = c} {n = n} {room = room}) rest e = e (stmt room) c
  complete_else_before (grammar.else_block {c = c} {n = n} {room = room} {ts = ts} {ss = x} h) rest e = else_read room c n (ts ++ rest) rest x (complete_block h rest)

  complete_finally : {c : Context} {n room : ℕ} {ts : List Lexeme} {x : Stmts} → IsFinally c n room ts x → (rest : List Lexeme) → ends_stmt (head_of rest) ≡ true → finally_part (stmt room) room c n (ts ++ rest) ≡ given x rest
  complete_finally (grammar.no_finally {c = c} {n = n} {room = room}) rest e = no_finally (stmt room) room c n rest e
  complete_finally (grammar.finally_block {c = c} {n = n} {room = room} {ts = ts} {ss = x} h) rest e = finally_read room c n (ts ++ rest) rest x (complete_block h rest)

  complete_handler : {c : Context} {n room : ℕ} {ts : List Lexeme} {h : Handler × ℕ} → IsHandler c n room ts h → (found : List Handler) (rest : List Lexeme) → next_handler (stmt room) room c (open_handlers found n) (ts ++ rest) ≡ given (open_handlers (found ++ h.0 ∷ []) h.1) rest
  complete_handler (grammar.handler {c = c} {n = n} {m = m} {room = room} {xs = xs} {ys = ys} {zs = zs} {e = e} {as_name = b} {ss = ss} h k q) found rest =
      ap (λ (l : List Lexeme). next_handler (stmt room) room c (open_handlers found n) (token.Except ∷ l)) (append_assoc xs (ys ++ token.Colon ∷ zs) rest ∙ ap (λ (l : List Lexeme). xs ++ l) (append_assoc ys (token.Colon ∷ zs) rest))
      ∙ handler_read room c found n xs ys (zs ++ rest) rest e b (pair ss m) h k (complete_block q rest)

  -- handlers behind those that are read already, and whether another one may follow
  complete_more_handlers : {c : Context} {n room : ℕ} {ts : List Lexeme} {hs : List Handler × ℕ} → IsHandlers c n room ts hs → (found : List Handler) (rest : List Lexeme) → except_ahead (head_of rest) ≡ false → (o : Bool) × (handler_loop room c (open_handlers found n) (ts ++ rest) ≡ given (handlers_by (found ++ hs.0) hs.1 o) rest)
  complete_more_handlers (grammar.last_handler {c = c} {n = n} {m = m} {room = room} {h = hd} h) found rest e = (true, handler_round_by h found rest (complete_handler h found rest) ∙ handlers_stop room c (found ++ hd ∷ []) m true rest e)
  complete_more_handlers (grammar.takes_all {c = c} {n = n} {m = m} {room = room} {ts = ts} {ss = ss} h) found rest e = (false, handler_round room c found n (with_handler found None None (pair ss m) false) (token.Colon ∷ (ts ++ rest)) rest (all_read room c found n (ts ++ rest) rest (pair ss m) (complete_block h rest)) ∙ handlers_stop room c (found ++ (record { kinds = None; bound = None; body = ss }) ∷ []) m false rest e)
  complete_more_handlers (grammar.more_handlers {c = c} {n = n} {m = m} {k = k} {room = room} {xs = xs} {ys = ys} {h = hd} {hs = hs} h q) found rest e =
      let behind = complete_more_handlers q (found ++ hd ∷ []) rest e in (
        behind.0,
        ap (handler_loop room c (open_handlers found n)) (append_assoc xs ys rest)
            ∙ handler_round_by h found (ys ++ rest) (complete_handler h found (ys ++ rest))
            ∙ behind.1
            ∙ ap (λ (l : List Handler). given (handlers_by l k behind.0) rest) (append_assoc found (hd ∷ []) hs),
      )

  complete_handlers : {c : Context} {n room : ℕ} {ts : List Lexeme} {hs : List Handler × ℕ} → IsHandlers c n room ts hs → (rest : List Lexeme) → except_ahead (head_of rest) ≡ false → (o : Bool) × (handlers (stmt room) room c n (ts ++ rest) ≡ given (handlers_by hs.0 hs.1 o) rest)
  complete_handlers (grammar.last_handler {c = c} {n = n} {m = m} {room = room} {ts = ts} {h = hd} h) rest e = (true, first_handler room c n (open_handlers (hd ∷ []) m) (open_handlers (hd ∷ []) m) (ts ++ rest) rest rest (complete_handler h [] rest) (handlers_stop room c (hd ∷ []) m true rest e))
  complete_handlers (grammar.takes_all {c = c} {n = n} {m = m} {room = room} {ts = ts} {ss = ss} h) rest e = (false, first_handler room c n (with_handler [] None None (pair ss m) false) (with_handler [] None None (pair ss m) false) (token.Except ∷ token.Colon ∷ (ts ++ rest)) rest rest (all_read room c [] n (ts ++ rest) rest (pair ss m) (complete_block h rest)) (handlers_stop room c ((record { kinds = None; bound = None; body = ss }) ∷ []) m false rest e))
  complete_handlers (grammar.more_handlers {c = c} {n = n} {m = m} {k = k} {room = room} {xs = xs} {ys = ys} {h = hd} {hs = hs} h q) rest e =
      let behind = complete_more_handlers q (hd ∷ []) rest e in (
        behind.0,
        ap (handlers (stmt room) room c n) (append_assoc xs ys rest)
            ∙ first_handler room c n (open_handlers (hd ∷ []) m) (handlers_by (hd ∷ hs) k behind.0) (xs ++ (ys ++ rest)) (ys ++ rest) rest (complete_handler h [] (ys ++ rest)) (behind.1),
      )

  complete_body : {names : List (List ℕ)} {n room : ℕ} {ts : List Lexeme} {b : Body × ℕ} → IsBody names n room ts b → (rest : List Lexeme) → function_body (stmt room) room names n (ts ++ rest) ≡ given b rest
  complete_body (grammar.line_body {parameters = names} {n = n} {room = room} {ts = ts} {ss = ss} h) rest = line_body_read room names n ts rest ss h
  complete_body (grammar.indented_body {parameters = names} {globals = gs} {n = n} {m = m} {room = room} {xs = xs} {ys = ys} {ss = ss} h k) rest =
      let o = stmts_open k (token.Dedent ∷ rest) in
      indented_body_read room names gs n xs ys rest (pair ss m) (globals_read names gs room xs (ys ++ token.Dedent ∷ rest) h o.no_global) (complete_first k (token.Dedent ∷ rest) (at_dedent rest))

-- ---- scripts

pub complete_script : (room : ℕ) (ts : List Lexeme) (s : Script) → Spells room ts s → script room ts ≡ given s []
unfolding script end stmt_ahead
complete_script room ts s scripts.no_statements = rw (stmts_stop room top (pair [] 0) (token.End ∷ []) (at_end [])) refl
complete_script room ts s (scripts.statements {ts = us} {ss = ss} h) = rw (complete_stmts h [] (token.End ∷ []) (at_end [])) refl
