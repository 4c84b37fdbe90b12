-- What is printed of a script spells it.
use Rattle.std.proofs.Common.{◌≡◌, ◌∙◌, sym, ap, subst, ℕ, suc, Bool, false, List, [], ◌∷◌, ◌++◌, map, flat_map, Some, None, append-nil, append_assoc}
use Rattle.source_combinators.specs.Separated.{IsListed, single, sep_last, several}
use Rattle.py_syntax.specs.declared.lexeme.Lexeme.{Lexeme}
use Rattle.py_syntax.specs.declared.lexeme.Lexeme.TheVariants as token
use Rattle.py_syntax.specs.declared.stmt.Branch.{Branch, fold-roll-Branch}
use Rattle.py_syntax.specs.declared.stmt.FuncDef.{FuncDef, fold-roll-FuncDef}
use Rattle.py_syntax.specs.declared.stmt.Handler.{Handler, fold-roll-Handler}
use Rattle.py_syntax.specs.declared.stmt.Script.{Script}
use Rattle.py_syntax.specs.declared.stmt.Stmt.{Stmt}
use Rattle.py_syntax.specs.declared.stmt.Stmt.TheVariants as tree
use Rattle.py_syntax.specs.declared.stmt.Stmt.TheVariants.{rolls-If, rolls-While, rolls-Try, rolls-Def}
use Rattle.py_syntax.specs.declared.stmt.Stmt.TheOpen.{Stmt-F}
use Rattle.py_syntax.specs.declared.context.Context.{Context}
use Rattle.py_syntax.specs.Contexts.{top, within_finally, within_function}
use Rattle.py_syntax.specs.Expressions.{IsExpr}
use Rattle.py_syntax.specs.Simple as line
use Rattle.py_syntax.specs.Simple.{IsSimple, IsLine}
use Rattle.py_syntax.specs.Statements as grammar
use Rattle.py_syntax.specs.Statements.{Body, body, IsParameters, IsStmt, IsStmts, IsBlock, IsBranch, IsElifs, IsElse, IsFinally, IsHandler, IsHandlers, IsBody}
use Rattle.py_syntax.specs.Grammar as script
use Rattle.py_syntax.specs.Grammar.{Spells}
use Rattle.source_print.specs.Expressions.{expr_tokens}
use Rattle.source_print.specs.Statements.{names_with, bound_tokens, optional, in_order, block, clause, global_line, stmt_at, branch_at, handler_at, function_at, stmt_tokens, branch_tokens, function_tokens, handler_tokens, stmts_tokens, printed}
use Rattle.source_print.proofs.Expressions.{expr_printed}
use Rattle.source_print.proofs.Simple.{bound_printed, stmt_layer, simple_printed}
use Rattle.source_print.proofs.Functions.{parameters_printed, globals_printed}

-- ---- statements in a row

-- each statement is spelled by what is printed of it
pub data Run (c : Context) (room : ℕ) : ℕ → List Stmt → ℕ → Type 0 where
  none : {n : ℕ} → Run c room n [] n
  then : {n m k : ℕ} {s : Stmt} {ss : List Stmt} → IsStmt c n room (stmt_tokens s) (s ∷ [], m) → Run c room m ss k → Run c room n (s ∷ ss) k

run_behind : {c : Context} {room n m k : ℕ} {ss rs : List Stmt} → Run c room n ss m → Run c room m rs k → Run c room n (ss ++ rs) k
run_behind none q = q
run_behind (then h r) q = then h (run_behind r q)

abbrev IsSome : {A : Type 0} → List A → Type 0
IsSome [] = ⊥
IsSome (x ∷ xs) = Unit {0}

some_behind : {A : Type 0} (xs ys : List A) → IsSome xs → IsSome (xs ++ ys)
some_behind [] ys h = absurd h
some_behind (x ∷ xs) ys h = tt

abbrev Filled : Context → ℕ → ℕ → List Stmt × ℕ → Type 0
Filled c n room x = IsSome x.0 × Run c room n x.0 x.1

run_spelled : {c : Context} {room n m : ℕ} (s : Stmt) (ss : List Stmt) → Run c room n (s ∷ ss) m → IsStmts c n room (stmts_tokens (s ∷ ss)) (s ∷ ss, m)
run_spelled {c = c} {room = room} {n = n} {m = m} s [] (then h none) = subst (λ ts. IsStmts c n room ts (s ∷ [], m)) (sym (append-nil (stmt_tokens s))) (grammar.last_stmt h)
run_spelled s (r ∷ rs) (then h q) = grammar.more_stmts h (run_spelled r rs q)

block_spelled : {c : Context} {room n m : ℕ} (ss : List Stmt) → IsSome ss → Run c room n ss m → IsBlock c n room (block (map stmt_tokens ss)) (ss, m)
block_spelled [] f r = absurd f
block_spelled (s ∷ ss) f r = grammar.indented (run_spelled s ss r)

else_spelled : {c : Context} {room n m : ℕ} (ss : List Stmt) → IsSome ss → Run c room n ss m → IsElse c n room (clause token.Else (map stmt_tokens ss)) (ss, m)
else_spelled [] f r = absurd f
else_spelled (s ∷ ss) f r = grammar.else_block (block_spelled (s ∷ ss) f r)

finally_spelled : {c : Context} {room n m : ℕ} (ss : List Stmt) → IsSome ss → Run (within_finally c) room n ss m → IsFinally c n room (clause token.Finally (map stmt_tokens ss)) (ss, m)
finally_spelled [] f r = absurd f
finally_spelled (s ∷ ss) f r = grammar.finally_block (block_spelled (s ∷ ss) f r)

body_spelled : {parameters globals : List (List ℕ)} {room n m : ℕ} (ss : List Stmt) → IsSome ss → Run within_function room n ss m → grammar.IsGlobalLines parameters room (global_line globals) globals
    → IsBody parameters n room (token.Newline ∷ token.Indent ∷ (global_line globals ++ (stmts_tokens ss ++ token.Dedent ∷ []))) (body globals ss, m)
body_spelled [] f r h = absurd f
body_spelled (s ∷ ss) f r h = grammar.indented_body h (run_spelled s ss r)

line_run : {c : Context} {room n : ℕ} {ts : List Lexeme} {x : List Stmt × Bool} → IsListed token.Semicolon (IsSimple c) room ts x → Filled c n room (x.0, n)
line_run {n = n} (single h) = (tt, then (simple_printed n h) none)
line_run {n = n} (sep_last h) = (tt, then (simple_printed n h) none)
line_run {n = n} (several h k) = (tt, then (simple_printed n h) (line_run k).1)

filled_line : {c : Context} {room n : ℕ} {ts : List Lexeme} {ss : List Stmt} → IsLine c room ts ss → Filled c n room (ss, n)
filled_line (line.line h) = line_run h

-- ---- what is printed of each form

pub branch_is : (b : Branch) → branch_tokens b ≡ expr_tokens b.test ++ token.Colon ∷ block (map stmt_tokens b.body)
branch_is b = fold-roll-Branch (List Lexeme) (List Lexeme) (List Lexeme) (List Lexeme) stmt_at branch_at function_at handler_at (record { test = b.test; body = b.body })

pub handler_is : (h : Handler) → handler_tokens h ≡ token.Except ∷ (optional h.kinds ++ (bound_tokens h.bound ++ token.Colon ∷ block (map stmt_tokens h.body)))
handler_is h = fold-roll-Handler (List Lexeme) (List Lexeme) (List Lexeme) (List Lexeme) stmt_at branch_at function_at handler_at (record { kinds = h.kinds; bound = h.bound; body = h.body })

pub function_is : (f : FuncDef) → function_tokens f ≡ token.Def ∷ token.Name f.name ∷ token.OpenParen ∷ (names_with token.Comma f.parameters ++ token.CloseParen ∷ token.Colon
    ∷ token.Newline ∷ token.Indent ∷ (global_line f.globals ++ (stmts_tokens f.body ++ token.Dedent ∷ [])))
function_is f = fold-roll-FuncDef (List Lexeme) (List Lexeme) (List Lexeme) (List Lexeme) stmt_at branch_at function_at handler_at (record { number = f.number; name = f.name; parameters = f.parameters; globals = f.globals; body = f.body })

pub if_is : (b : Branch) (bs : List Branch) (ss : List Stmt) → stmt_tokens (tree.If (b ∷ bs) ss) ≡ token.If ∷ (branch_tokens b ++ (flat_map (λ ts. token.Elif ∷ ts) (map branch_tokens bs) ++ clause token.Else (map stmt_tokens ss)))
if_is b bs ss =
    stmt_layer (Stmt-F.If (b ∷ bs) ss) (tree.If (b ∷ bs) ss) (rolls-If (b ∷ bs) ss)
    ∙ ap (λ ts. token.If ∷ ts) (append_assoc (branch_tokens b) (flat_map (λ ts. token.Elif ∷ ts) (map branch_tokens bs)) (clause token.Else (map stmt_tokens ss)))

pub while_is : (b : Branch) → stmt_tokens (tree.While b.test b.body) ≡ token.While ∷ branch_tokens b
while_is b = stmt_layer (Stmt-F.While b.test b.body) (tree.While b.test b.body) (rolls-While b.test b.body) ∙ ap (λ ts. token.While ∷ ts) (sym (branch_is b))

pub try_is : (ss : List Stmt) (hs : List Handler) (es fs : List Stmt) → stmt_tokens (tree.Try ss hs es fs)
    ≡ token.Try ∷ token.Colon ∷ (block (map stmt_tokens ss) ++ (in_order (map handler_tokens hs) ++ (clause token.Else (map stmt_tokens es) ++ clause token.Finally (map stmt_tokens fs))))
try_is ss hs es fs = stmt_layer (Stmt-F.Try ss hs es fs) (tree.Try ss hs es fs) (rolls-Try ss hs es fs)

pub def_is : (f : FuncDef) → stmt_tokens (tree.Def f) ≡ function_tokens f
def_is f = stmt_layer (Stmt-F.Def f) (tree.Def f) (rolls-Def f)

-- a statement alone
alone : {c : Context} {n room m : ℕ} (s : Stmt) (ts : List Lexeme) → stmt_tokens s ≡ ts → IsStmt c n room ts (s ∷ [], m) → Filled c n room (s ∷ [], m)
alone {c = c} {n = n} {room = room} {m = m} s ts is h = (tt, then (subst (λ us. IsStmt c n room us (s ∷ [], m)) (sym is) h) none)

branch_spelled : {c : Context} {n m room : ℕ} (b : Branch) → (is_target : Bool) × IsExpr room (expr_tokens b.test) (record { tree = b.test; is_target = is_target }) → IsBlock c n room (block (map stmt_tokens b.body)) (b.body, m) → IsBranch c n room (branch_tokens b) (b, m)
branch_spelled {c = c} {n = n} {m = m} {room = room} b e h = subst (λ ts. IsBranch c n room ts (b, m)) (sym (branch_is b)) (grammar.branch e.1 h)

try_finally_printed : {c : Context} {n m k room : ℕ} (ss fs : List Stmt) → IsSome ss → Run c room n ss m → IsSome fs → Run (within_finally c) room m fs k → Filled c n (suc room) (tree.Try ss [] [] fs ∷ [], k)
try_finally_printed ss [] f r g q = absurd g
try_finally_printed ss (s ∷ fs) f r g q =
    alone (tree.Try ss [] [] (s ∷ fs)) (token.Try ∷ token.Colon ∷ (block (map stmt_tokens ss) ++ token.Finally ∷ token.Colon ∷ block (map stmt_tokens (s ∷ fs)))) (try_is ss [] [] (s ∷ fs))
    (grammar.try_finally (block_spelled ss f r) (block_spelled (s ∷ fs) g q))

def_printed : {c : Context} {n m room : ℕ} (name : List ℕ) (parameters : List (List ℕ)) (b : Body) → c.in_function ≡ false → (is_open : Bool) × IsParameters [] room (names_with token.Comma parameters) (parameters, is_open)
    → IsBody parameters (suc n) room (token.Newline ∷ token.Indent ∷ (global_line b.globals ++ (stmts_tokens b.stmts ++ token.Dedent ∷ []))) (b, m)
    → Filled c n (suc room) (tree.Def (record { number = n; name = name; parameters = parameters; globals = b.globals; body = b.stmts }) ∷ [], m)
def_printed {n = n} name parameters b h p q =
    let f : FuncDef = record { number = n; name = name; parameters = parameters; globals = b.globals; body = b.stmts } in
    alone (tree.Def f)
    (token.Def ∷ token.Name name ∷ token.OpenParen ∷ (names_with token.Comma parameters ++ token.CloseParen ∷ token.Colon ∷ token.Newline ∷ token.Indent ∷ (global_line b.globals ++ (stmts_tokens b.stmts ++ token.Dedent ∷ []))))
    (def_is f ∙ function_is f) (grammar.def_stmt name h p.1 q)

-- ---- what is spelled is spelled when it is printed

mutual
  filled_stmt : {c : Context} {n room : ℕ} {ts : List Lexeme} {x : List Stmt × ℕ} → IsStmt c n room ts x → Filled c n room x
  filled_stmt (grammar.on_line h) = filled_line h
  filled_stmt (grammar.if_stmt {b = b} {bs = bs} {ss = ss} h k q) =
      alone (tree.If (b ∷ bs) ss) (token.If ∷ (branch_tokens b ++ (flat_map (λ ts. token.Elif ∷ ts) (map branch_tokens bs) ++ clause token.Else (map stmt_tokens ss)))) (if_is b bs ss)
      (grammar.if_stmt (branch_printed h) (elifs_printed k) (else_printed q))
  filled_stmt (grammar.while_stmt {b = b} h) = alone (tree.While b.test b.body) (token.While ∷ branch_tokens b) (while_is b) (grammar.while_stmt (branch_printed h))
  filled_stmt (grammar.try_finally {ss = ss} {fs = fs} h k) = try_finally_printed ss fs (filled_block h).0 (filled_block h).1 (filled_block k).0 (filled_block k).1
  filled_stmt (grammar.try_except {ss = ss} {es = es} {fs = fs} {handlers = hs} h k q r) =
      alone (tree.Try ss hs es fs) (token.Try ∷ token.Colon ∷ (block (map stmt_tokens ss) ++ (in_order (map handler_tokens hs) ++ (clause token.Else (map stmt_tokens es) ++ clause token.Finally (map stmt_tokens fs))))) (try_is ss hs es fs)
      (grammar.try_except (block_spelled ss (filled_block h).0 (filled_block h).1) (handlers_printed k) (else_printed q) (finally_printed r))
  filled_stmt (grammar.def_stmt {room = room} {ts = ts} {parameters = parameters} {is_open = is_open} {b = b} name h p q) = def_printed name parameters b h (parameters_printed room ts (parameters, is_open) p) (body_printed q)

  filled_stmts : {c : Context} {n room : ℕ} {ts : List Lexeme} {x : List Stmt × ℕ} → IsStmts c n room ts x → Filled c n room x
  filled_stmts (grammar.last_stmt h) = filled_stmt h
  filled_stmts (grammar.more_stmts {ss = ss} {rs = rs} h k) = (some_behind ss rs (filled_stmt h).0, run_behind (filled_stmt h).1 (filled_stmts k).1)

  filled_block : {c : Context} {n room : ℕ} {ts : List Lexeme} {x : List Stmt × ℕ} → IsBlock c n room ts x → Filled c n room x
  filled_block (grammar.line_block h) = filled_line h
  filled_block (grammar.indented h) = filled_stmts h

  branch_printed : {c : Context} {n room : ℕ} {ts : List Lexeme} {x : Branch × ℕ} → IsBranch c n room ts x → IsBranch c n room (branch_tokens x.0) x
  branch_printed (grammar.branch {e = e} {ss = ss} h k) = branch_spelled (record { test = e.tree; body = ss }) (expr_printed h) (block_spelled ss (filled_block k).0 (filled_block k).1)

  elifs_printed : {c : Context} {n room : ℕ} {ts : List Lexeme} {x : List Branch × ℕ} → IsElifs c n room ts x → IsElifs c n room (flat_map (λ us. token.Elif ∷ us) (map branch_tokens x.0)) x
  elifs_printed grammar.no_elif = grammar.no_elif
  elifs_printed (grammar.elif h k) = grammar.elif (branch_printed h) (elifs_printed k)

  else_printed : {c : Context} {n room : ℕ} {ts : List Lexeme} {x : List Stmt × ℕ} → IsElse c n room ts x → IsElse c n room (clause token.Else (map stmt_tokens x.0)) x
  else_printed grammar.no_else = grammar.no_else
  else_printed (grammar.else_block {ss = x} h) = else_spelled x.0 (filled_block h).0 (filled_block h).1

  finally_printed : {c : Context} {n room : ℕ} {ts : List Lexeme} {x : List Stmt × ℕ} → IsFinally c n room ts x → IsFinally c n room (clause token.Finally (map stmt_tokens x.0)) x
  finally_printed grammar.no_finally = grammar.no_finally
  finally_printed (grammar.finally_block {ss = x} h) = finally_spelled x.0 (filled_block h).0 (filled_block h).1

  handler_printed : {c : Context} {n room : ℕ} {ts : List Lexeme} {x : Handler × ℕ} → IsHandler c n room ts x → IsHandler c n room (handler_tokens x.0) x
  handler_printed {c = c} {n = n} (grammar.handler {m = m} {room = room} {ys = ys} {e = e} {as_name = as_name} {ss = ss} h k q) =
      let held : Handler = record { kinds = Some e.tree; bound = as_name; body = ss } in
      subst (λ us. IsHandler c n room us (held, m)) (sym (handler_is held)) (grammar.handler (expr_printed h).1 (bound_printed room ys as_name k) (block_spelled ss (filled_block q).0 (filled_block q).1))

  handlers_printed : {c : Context} {n room : ℕ} {ts : List Lexeme} {x : List Handler × ℕ} → IsHandlers c n room ts x → IsHandlers c n room (in_order (map handler_tokens x.0)) x
  handlers_printed {c = c} {n = n} {room = room} (grammar.last_handler {m = m} {h = held} h) = subst (λ us. IsHandlers c n room us (held ∷ [], m)) (sym (append-nil (handler_tokens held))) (grammar.last_handler (handler_printed h))
  handlers_printed {c = c} {n = n} {room = room} (grammar.takes_all {m = m} {ss = ss} h) =
      let held : Handler = record { kinds = None; bound = None; body = ss } in
      subst (λ us. IsHandlers c n room us (held ∷ [], m)) (sym (append-nil (handler_tokens held) ∙ handler_is held)) (grammar.takes_all (block_spelled ss (filled_block h).0 (filled_block h).1))
  handlers_printed (grammar.more_handlers h k) = grammar.more_handlers (handler_printed h) (handlers_printed k)

  body_printed : {parameters : List (List ℕ)} {n room : ℕ} {ts : List Lexeme} {x : Body × ℕ} → IsBody parameters n room ts x
      → IsBody parameters n room (token.Newline ∷ token.Indent ∷ (global_line x.0.globals ++ (stmts_tokens x.0.stmts ++ token.Dedent ∷ []))) x
  body_printed {n = n} (grammar.line_body {room = room} {ss = ss} h) =
      let filled : Filled within_function n room (ss, n) = filled_line h in
      body_spelled ss filled.0 filled.1 grammar.no_globals
  body_printed (grammar.indented_body {parameters = parameters} {globals = globals} {room = room} {xs = xs} {ss = ss} h k) = body_spelled ss (filled_stmts k).0 (filled_stmts k).1 (globals_printed parameters room xs globals h)

script_spelled : {room m : ℕ} (ss : List Stmt) → IsSome ss → Run top room 0 ss m → Spells room (stmts_tokens ss ++ token.End ∷ []) (record { body = ss })
script_spelled [] f r = absurd f
script_spelled (s ∷ ss) f r = script.statements (run_spelled s ss r)

pub script_printed : (room : ℕ) (ts : List Lexeme) (s : Script) → Spells room ts s → Spells room (printed s) s
script_printed room ts s script.no_statements = script.no_statements
script_printed room ts s (script.statements {ss = ss} h) = script_spelled ss (filled_stmts h).0 (filled_stmts h).1
