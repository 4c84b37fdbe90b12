-- Statements and blocks are safe.
use Rattle.std.proofs.Common.{◌≡◌, List, [], ◌∷◌, map, Option, Some, None, sym, subst}
use Rattle.py_syntax.specs.declared.expr.Expr.{Expr}
use Rattle.py_syntax.specs.declared.stmt.Stmt.{Stmt, roll-Stmt, map-Stmt}
use Rattle.py_syntax.specs.declared.stmt.Stmt.TheOpen.{Stmt-F}
use Rattle.py_syntax.specs.declared.stmt.Stmt.TheFolds.{fold-FuncDef, fold-roll-Stmt, ind-Stmt}
use Rattle.py_syntax.specs.declared.stmt.Branch.{Branch, fold-roll-Branch}
use Rattle.py_syntax.specs.declared.stmt.FuncDef.{FuncDef}
use Rattle.py_syntax.specs.declared.stmt.Handler.{Handler, fold-roll-Handler}
use Rattle.meaning_script.specs.Pieces.{Piece, pay, most, in_order, gathers}
use Rattle.meaning_script.specs.Operators.{Around, eval}
use Rattle.meaning_script.specs.Statements.{BranchPiece, DefPiece, HandlerPiece, stmt_operands_at, performs_at, tries, paid_at, stmt_at, branch_at, eval_some, handler_at, def_at, run, branch, handler, run_all}
use Rattle.meaning_safety.proofs.Pieces.{Always, AllSafe, pay_safe, gathers_safe, in_order_safe}
use Rattle.meaning_safety.proofs.Expressions.{SafeAround, eval_safe}
use Rattle.meaning_safety.proofs.Blocks.{SafeBranch, AllBranches, performs_safe, tests_safe, turns_safe, defines_safe}
use Rattle.meaning_safety.proofs.ImportStatements.{imports_all_safe, from_import_safe}
use Rattle.meaning_safety.proofs.Tries.{SomeSafe, SafeHandler, AllHandlers, tries_safe, guards_safe}

module _ (around : Around) (safe_around : SafeAround around) where
  abbrev SafeStmt : Stmt → Type 0
  SafeStmt s = Always (run around s)

  abbrev BranchSafe : Branch → Type 0
  BranchSafe b = SafeBranch (branch around b)

  -- of a function nothing runs where it is defined
  abbrev Defined : FuncDef → Type 0
  Defined f = Unit {0}

  abbrev HandlerSafe : Handler → Type 0
  HandlerSafe h = SafeHandler (handler around h)

  abbrev defined : FuncDef → DefPiece
  defined = fold-FuncDef Piece BranchPiece DefPiece HandlerPiece (stmt_at around) (branch_at around) def_at (handler_at around)

  abbrev Told : Type 0
  Told = Stmt-F ((s : Stmt) × SafeStmt s) ((b : Branch) × BranchSafe b) ((f : FuncDef) × Defined f) ((h : Handler) × HandlerSafe h)

  abbrev forms : Told → Stmt-F Stmt Branch FuncDef Handler
  forms y = map-Stmt ((s : Stmt) × SafeStmt s) ((b : Branch) × BranchSafe b) ((f : FuncDef) × Defined f) ((h : Handler) × HandlerSafe h) Stmt Branch FuncDef Handler (λ e. e.0) (λ e. e.0) (λ e. e.0) (λ e. e.0) y

  abbrev pieces : Stmt-F Stmt Branch FuncDef Handler → Stmt-F Piece BranchPiece DefPiece HandlerPiece
  pieces d = map-Stmt Stmt Branch FuncDef Handler Piece BranchPiece DefPiece HandlerPiece (run around) (branch around) defined (handler around) d

  abbrev block : List ((s : Stmt) × SafeStmt s) → List Piece
  block ss = map (run around) (map (λ e. e.0) ss)

  block_safe : (ss : List ((s : Stmt) × SafeStmt s)) → AllSafe (block ss)
  block_safe [] = tt
  block_safe (s ∷ ss) = (s.1, block_safe ss)

  ordered_safe : (ss : List ((s : Stmt) × SafeStmt s)) → Always (in_order (block ss))
  ordered_safe ss = in_order_safe (block ss) (block_safe ss)

  branches_safe : (bs : List ((b : Branch) × BranchSafe b)) → AllBranches (map (branch around) (map (λ e. e.0) bs))
  branches_safe [] = tt
  branches_safe (b ∷ bs) = (b.1, branches_safe bs)

  handlers_safe : (hs : List ((h : Handler) × HandlerSafe h)) → AllHandlers (map (handler around) (map (λ e. e.0) hs))
  handlers_safe [] = tt
  handlers_safe (h ∷ hs) = (h.1, handlers_safe hs)

  evals_safe : (es : List Expr) → AllSafe (map (eval around) es)
  evals_safe [] = tt
  evals_safe (e ∷ es) = (eval_safe around safe_around e, evals_safe es)

  simple_safe : (d : Stmt-F Piece BranchPiece DefPiece HandlerPiece) → Always (gathers (map (eval around) (stmt_operands_at d)) [] (performs_at around.access d))
  simple_safe d s = gathers_safe (map (eval around) (stmt_operands_at d)) (evals_safe (stmt_operands_at d)) (performs_at around.access d) (performs_safe around.access safe_around.access d) s [] tt

  paid_safe : (y : Told) → Always (paid_at around (pieces (forms y)))
  paid_safe (Stmt-F.Import items) = imports_all_safe around safe_around items
  paid_safe (Stmt-F.From dots parts names) = from_import_safe around safe_around dots parts names
  paid_safe (Stmt-F.If bs ss) = tests_safe (map (branch around) (map (λ e. e.0) bs)) (branches_safe bs) (in_order (block ss)) (ordered_safe ss)
  paid_safe (Stmt-F.Try ss hs es fs) =
      guards_safe (block fs) (block_safe fs) (tries (in_order (block ss)) (map (handler around) (map (λ e. e.0) hs)) (in_order (block es)))
      (tries_safe (in_order (block ss)) (ordered_safe ss) (map (handler around) (map (λ e. e.0) hs)) (handlers_safe hs) (in_order (block es)) (ordered_safe es))
  paid_safe (Stmt-F.Def f) = defines_safe (defined f.0)
  paid_safe (Stmt-F.Evaluate e) = simple_safe (Stmt-F.Evaluate e)
  paid_safe (Stmt-F.Assign target e) = simple_safe (Stmt-F.Assign target e)
  paid_safe (Stmt-F.Augment x o e) = simple_safe (Stmt-F.Augment x o e)
  paid_safe (Stmt-F.Delete target) = simple_safe (Stmt-F.Delete target)
  paid_safe Stmt-F.Pass = simple_safe Stmt-F.Pass
  paid_safe Stmt-F.Break = simple_safe Stmt-F.Break
  paid_safe Stmt-F.Continue = simple_safe Stmt-F.Continue
  paid_safe (Stmt-F.Return e) = simple_safe (Stmt-F.Return e)
  paid_safe (Stmt-F.Raise e) = simple_safe (Stmt-F.Raise e)
  paid_safe (Stmt-F.While test ss) = simple_safe (Stmt-F.While test (block ss))

  unit_safe : (y : Told) → Always (λ s k. pay 1 (paid_at around (pieces (forms y)) s k))
  unit_safe y s = pay_safe s 1 (paid_at around (pieces (forms y))) (paid_safe y s)

  layer_safe : (y : Told) → Always (stmt_at around (pieces (forms y)))
  layer_safe (Stmt-F.While test ss) = turns_safe most (eval around test) (in_order (block ss)) (eval_safe around safe_around test) (ordered_safe ss)
  layer_safe y = unit_safe y

  some_safe : (e : Option Expr) → SomeSafe (eval_some around e)
  some_safe None = tt
  some_safe (Some e) = eval_safe around safe_around e

  branch_layer : (b : Branch) → branch around b ≡ branch_at around (record { test = b.test; body = map (run around) b.body })
  branch_layer b = fold-roll-Branch Piece BranchPiece DefPiece HandlerPiece (stmt_at around) (branch_at around) def_at (handler_at around) (record { test = b.test; body = b.body })

  handler_layer : (h : Handler) → handler around h ≡ handler_at around (record { kinds = h.kinds; bound = h.bound; body = map (run around) h.body })
  handler_layer h = fold-roll-Handler Piece BranchPiece DefPiece HandlerPiece (stmt_at around) (branch_at around) def_at (handler_at around) (record { kinds = h.kinds; bound = h.bound; body = h.body })

  pub run_safe : (s : Stmt) → Always (run around s)
  run_safe =
      ind-Stmt SafeStmt BranchSafe Defined HandlerSafe
      (λ x y is. subst (λ z. SafeStmt (roll-Stmt z)) is
      (subst Always (sym (fold-roll-Stmt Piece BranchPiece DefPiece HandlerPiece (stmt_at around) (branch_at around) def_at (handler_at around) (forms y))) (layer_safe y)))
      (λ x y is. subst (λ z. BranchSafe (record { test = z.test; body = z.body })) is
      (subst SafeBranch (sym (branch_layer (record { test = y.test; body = map (λ e. e.0) y.body })))
      (record { test = eval_safe around safe_around y.test; body = ordered_safe y.body })))
      (λ x y is. tt)
      (λ x y is. subst (λ z. HandlerSafe (record { kinds = z.kinds; bound = z.bound; body = z.body })) is
      (subst SafeHandler (sym (handler_layer (record { kinds = y.kinds; bound = y.bound; body = map (λ e. e.0) y.body })))
      (record { kinds = some_safe y.kinds; body = ordered_safe y.body })))

  all_run_safe : (ss : List Stmt) → AllSafe (map (run around) ss)
  all_run_safe [] = tt
  all_run_safe (s ∷ ss) = (run_safe s, all_run_safe ss)

  pub run_all_safe : (ss : List Stmt) → Always (run_all around ss)
  run_all_safe ss = in_order_safe (map (run around) ss) (all_run_safe ss)
