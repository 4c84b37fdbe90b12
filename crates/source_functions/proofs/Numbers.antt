-- The functions of each spelled script are numbered in order.
use Rattle.std.proofs.Common.{◌≡◌, ◌∙◌, refl, sym, ap, subst, ℕ, zero, suc, ◌+◌, Bool, List, [], ◌∷◌, ◌++◌, Some, None, arith, append-nil, append_assoc}
use Rattle.std.specs.List.{slice_get}
use Rattle.source_combinators.specs.Separated.{IsListed, single, sep_last, several}
use Rattle.py_syntax.specs.declared.lexeme.Lexeme.{Lexeme}
use Rattle.py_syntax.specs.declared.lexeme.Lexeme.TheVariants as token
use Rattle.py_syntax.specs.declared.stmt.Branch.{Branch}
use Rattle.py_syntax.specs.declared.stmt.FuncDef.{FuncDef}
use Rattle.py_syntax.specs.declared.stmt.Handler.{Handler}
use Rattle.py_syntax.specs.declared.stmt.Stmt.{Stmt}
use Rattle.py_syntax.specs.declared.stmt.Stmt.TheOpen.{Stmt-F}
use Rattle.py_syntax.specs.declared.stmt.Stmt.TheVariants as tree
use Rattle.py_syntax.specs.declared.stmt.Stmt.TheVariants.{rolls-Evaluate, rolls-Assign, rolls-Augment, rolls-Delete, rolls-Pass, rolls-Break, rolls-Continue, rolls-Return, rolls-Raise, rolls-Import, rolls-From}
use Rattle.py_syntax.specs.declared.context.Context.{Context}
use Rattle.py_syntax.specs.Simple as line
use Rattle.py_syntax.specs.Simple.{IsSimple, IsLine}
use Rattle.py_syntax.specs.Statements as grammar
use Rattle.py_syntax.specs.Statements.{Body, IsStmt, IsStmts, IsBlock, IsBranch, IsElifs, IsElse, IsFinally, IsHandler, IsHandlers, IsBody}
use Rattle.py_syntax.specs.Grammar as script
use Rattle.py_syntax.specs.Grammar.{Spells}
use Rattle.source_functions.specs.Functions.{branch_beside, handler_beside, in_stmt, in_stmts, in_branches, in_handlers, functions}
use Rattle.source_functions.specs.Laws.{NumberedInOrder}
use Rattle.source_functions.proofs.Layers.{stmt_layer, in_if, in_while, in_try, in_def, in_branch, in_handler}

-- the functions have the numbers from n on, and m is the next one
abbrev Numbered : ℕ → List FuncDef → ℕ → Type 0
Numbered n [] m = n ≡ m
Numbered n (f ∷ fs) m = (f.number ≡ n) × Numbered (suc n) fs m

join : (n m k : ℕ) (fs gs : List FuncDef) → Numbered n fs m → Numbered m gs k → Numbered n (fs ++ gs) k
join n m k [] gs h q = subst (λ i. Numbered i gs k) (sym h) q
join n m k (f ∷ fs) gs h q = (h.0, join (suc n) m k fs gs h.1 q)

in_behind : (ss rs : List Stmt) → in_stmts (ss ++ rs) ≡ in_stmts ss ++ in_stmts rs
in_behind [] rs = refl
in_behind (s ∷ ss) rs = ap (λ l. in_stmt s ++ l) (in_behind ss rs) ∙ simp append_assoc

-- ---- statements of a line have none

simple_none : {c : Context} {room : ℕ} {ts : List Lexeme} {s : Stmt} → IsSimple c room ts s → in_stmt s ≡ []
simple_none (line.evaluate {e = e} h) = ap (λ x. x.1) (stmt_layer (Stmt-F.Evaluate e.tree) _ (rolls-Evaluate e.tree))
simple_none (line.assign {e = e} {x = x} h t k) = ap (λ x. x.1) (stmt_layer (Stmt-F.Assign e.tree x.tree) _ (rolls-Assign e.tree x.tree))
simple_none (line.augment {o = o} {x = x} n a h) = ap (λ x. x.1) (stmt_layer (Stmt-F.Augment n o x.tree) _ (rolls-Augment n o x.tree))
simple_none (line.delete {e = e} h t) = ap (λ x. x.1) (stmt_layer (Stmt-F.Delete e.tree) _ (rolls-Delete e.tree))
simple_none line.pass = ap (λ x. x.1) (stmt_layer Stmt-F.Pass _ rolls-Pass)
simple_none (line.break h) = ap (λ x. x.1) (stmt_layer Stmt-F.Break _ rolls-Break)
simple_none (line.continue h) = ap (λ x. x.1) (stmt_layer Stmt-F.Continue _ rolls-Continue)
simple_none (line.return_none h k) = ap (λ x. x.1) (stmt_layer (Stmt-F.Return None) _ (rolls-Return None))
simple_none (line.return_value {e = e} h k q) = ap (λ x. x.1) (stmt_layer (Stmt-F.Return (Some e.tree)) _ (rolls-Return (Some e.tree)))
simple_none line.raise_again = ap (λ x. x.1) (stmt_layer (Stmt-F.Raise None) _ (rolls-Raise None))
simple_none (line.raise {e = e} h) = ap (λ x. x.1) (stmt_layer (Stmt-F.Raise (Some e.tree)) _ (rolls-Raise (Some e.tree)))
simple_none (line.import_modules {aliases = aliases} h) = ap (λ x. x.1) (stmt_layer (Stmt-F.Import aliases) _ (rolls-Import aliases))
simple_none (line.import_from {dots = dots} {ns = ns} {names = names} h k) = ap (λ x. x.1) (stmt_layer (Stmt-F.From dots ns names) _ (rolls-From dots ns names))

listed_none : {c : Context} {room : ℕ} {ts : List Lexeme} {x : List Stmt × Bool} → IsListed token.Semicolon (IsSimple c) room ts x → in_stmts x.0 ≡ []
listed_none (single h) = ap (λ fs. fs ++ []) (simple_none h)
listed_none (sep_last h) = ap (λ fs. fs ++ []) (simple_none h)
listed_none (several {found = found} h k) = ap (λ fs. fs ++ in_stmts found) (simple_none h) ∙ listed_none k

line_none : {c : Context} {room : ℕ} {ts : List Lexeme} {ss : List Stmt} → IsLine c room ts ss → in_stmts ss ≡ []
line_none (line.line h) = listed_none h

abbrev InOrder : ℕ → List Stmt × ℕ → Type 0
InOrder n x = Numbered n (in_stmts x.0) x.1

on_line : {c : Context} {room : ℕ} {ts : List Lexeme} {ss : List Stmt} (n : ℕ) → IsLine c room ts ss → InOrder n (ss, n)
on_line n h = subst (λ fs. Numbered n fs n) (sym (line_none h)) refl

-- a statement alone
one : (n m : ℕ) (s : Stmt) (fs : List FuncDef) → in_stmt s ≡ fs → Numbered n fs m → InOrder n (s ∷ [], m)
one n m s fs is h = subst (λ gs. Numbered n gs m) (sym (append-nil (in_stmt s) ∙ is)) h

-- ---- the other forms

mutual
  stmt_order : {c : Context} {n room : ℕ} {ts : List Lexeme} {x : List Stmt × ℕ} → IsStmt c n room ts x → InOrder n x
  stmt_order {n = n} (grammar.on_line h) = on_line n h
  stmt_order {n = n} (grammar.if_stmt {m = m} {k = k} {l = l} {b = b} {bs = bs} {ss = ss} h q r) =
      one n l (tree.If (b ∷ bs) ss) (in_branches (b ∷ bs) ++ in_stmts ss) (in_if (b ∷ bs) ss)
      (join n k l (in_branches (b ∷ bs)) (in_stmts ss) (join n m k ((branch_beside b).1) (in_branches bs) (branch_order h) (elifs_order q)) (else_order r))
  stmt_order {n = n} (grammar.while_stmt {m = m} {b = b} h) = one n m (tree.While b.test b.body) (in_stmts b.body) (in_while b.test b.body) (subst (λ fs. Numbered n fs m) (in_branch b) (branch_order h))
  stmt_order {n = n} (grammar.try_finally {m = m} {k = k} {ss = ss} {fs = fs} h q) =
      one n k (tree.Try ss [] [] fs) (in_stmts ss ++ in_stmts fs) (in_try ss [] [] fs) (join n m k (in_stmts ss) (in_stmts fs) (block_order h) (block_order q))
  stmt_order {n = n} (grammar.try_except {m = m} {k = k} {l = l} {p = p} {ss = ss} {es = es} {fs = fs} {handlers = hs} h q r t) =
      one n p (tree.Try ss hs es fs) (in_stmts ss ++ (in_handlers hs ++ (in_stmts es ++ in_stmts fs))) (in_try ss hs es fs)
      (join n m p (in_stmts ss) (in_handlers hs ++ (in_stmts es ++ in_stmts fs)) (block_order h)
      (join m k p (in_handlers hs) (in_stmts es ++ in_stmts fs) (handlers_order q) (join k l p (in_stmts es) (in_stmts fs) (else_order r) (finally_order t))))
  stmt_order {n = n} (grammar.def_stmt {m = m} {parameters = parameters} {b = b} name h p q) =
      let f : FuncDef = record { number = n; name = name; parameters = parameters; globals = b.globals; body = b.stmts } in
      one n m (tree.Def f) (f ∷ in_stmts b.stmts) (in_def f) (refl, body_order q)

  stmts_order : {c : Context} {n room : ℕ} {ts : List Lexeme} {x : List Stmt × ℕ} → IsStmts c n room ts x → InOrder n x
  stmts_order (grammar.last_stmt h) = stmt_order h
  stmts_order {n = n} (grammar.more_stmts {m = m} {k = k} {ss = ss} {rs = rs} h q) = subst (λ fs. Numbered n fs k) (sym (in_behind ss rs)) (join n m k (in_stmts ss) (in_stmts rs) (stmt_order h) (stmts_order q))

  block_order : {c : Context} {n room : ℕ} {ts : List Lexeme} {x : List Stmt × ℕ} → IsBlock c n room ts x → InOrder n x
  block_order {n = n} (grammar.line_block h) = on_line n h
  block_order (grammar.indented h) = stmts_order h

  branch_order : {c : Context} {n room : ℕ} {ts : List Lexeme} {x : Branch × ℕ} → IsBranch c n room ts x → Numbered n (branch_beside x.0).1 x.1
  branch_order {n = n} (grammar.branch {m = m} {e = e} {ss = ss} h q) = subst (λ fs. Numbered n fs m) (sym (in_branch (record { test = e.tree; body = ss }))) (block_order q)

  elifs_order : {c : Context} {n room : ℕ} {ts : List Lexeme} {x : List Branch × ℕ} → IsElifs c n room ts x → Numbered n (in_branches x.0) x.1
  elifs_order grammar.no_elif = refl
  elifs_order {n = n} (grammar.elif {m = m} {k = k} {b = b} {bs = bs} h q) = join n m k ((branch_beside b).1) (in_branches bs) (branch_order h) (elifs_order q)

  else_order : {c : Context} {n room : ℕ} {ts : List Lexeme} {x : List Stmt × ℕ} → IsElse c n room ts x → InOrder n x
  else_order grammar.no_else = refl
  else_order (grammar.else_block h) = block_order h

  finally_order : {c : Context} {n room : ℕ} {ts : List Lexeme} {x : List Stmt × ℕ} → IsFinally c n room ts x → InOrder n x
  finally_order grammar.no_finally = refl
  finally_order (grammar.finally_block h) = block_order h

  handler_order : {c : Context} {n room : ℕ} {ts : List Lexeme} {x : Handler × ℕ} → IsHandler c n room ts x → Numbered n (handler_beside x.0).1 x.1
  handler_order {n = n} (grammar.handler {m = m} {e = e} {as_name = as_name} {ss = ss} h k q) = subst (λ fs. Numbered n fs m) (sym (in_handler (record { kinds = Some e.tree; bound = as_name; body = ss }))) (block_order q)

  handlers_order : {c : Context} {n room : ℕ} {ts : List Lexeme} {x : List Handler × ℕ} → IsHandlers c n room ts x → Numbered n (in_handlers x.0) x.1
  handlers_order {n = n} (grammar.last_handler {m = m} {h = held} h) = subst (λ fs. Numbered n fs m) (sym (append-nil (handler_beside held).1)) (handler_order h)
  handlers_order {n = n} (grammar.takes_all {m = m} {ss = ss} h) =
      let held : Handler = record { kinds = None; bound = None; body = ss } in
      subst (λ fs. Numbered n fs m) (sym (append-nil (handler_beside held).1 ∙ in_handler held)) (block_order h)
  handlers_order {n = n} (grammar.more_handlers {m = m} {k = k} {h = held} {hs = hs} h q) = join n m k ((handler_beside held).1) (in_handlers hs) (handler_order h) (handlers_order q)

  body_order : {parameters : List (List ℕ)} {n room : ℕ} {ts : List Lexeme} {x : Body × ℕ} → IsBody parameters n room ts x → Numbered n (in_stmts x.0.stmts) x.1
  body_order {n = n} (grammar.line_body h) = on_line n h
  body_order (grammar.indented_body h k) = stmts_order k

-- ---- scripts

at_place : (n m k : ℕ) (fs : List FuncDef) (f : FuncDef) → Numbered n fs m → slice_get fs k ≡ Some f → f.number ≡ n + k
at_place n m k [] f h e = absurd cc
at_place n m zero (g ∷ fs) f h e = let same : g ≡ f = cc in let at : f.number ≡ n = sym (ap (λ (x : FuncDef). x.number) same) ∙ h.0 in omega (arith, at)
at_place n m (suc k) (g ∷ fs) f h e = let rest = at_place (suc n) m k fs f h.1 e in omega (arith, rest)

found_at : (m k : ℕ) (fs : List FuncDef) (f : FuncDef) → Numbered 0 fs m → slice_get fs k ≡ Some f → f.number ≡ k
found_at m k fs f h e = let at = at_place 0 m k fs f h e in omega (arith, at)

pub numbered : NumberedInOrder
unfolding functions
numbered room ts s (script.no_statements) k f e = absurd cc
numbered room ts s (script.statements {n = n} {ss = ss} h) k f e = found_at n k (in_stmts ss) f (stmts_order h) e
