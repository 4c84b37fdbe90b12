-- What forms of statements do, by their parts.
use Rattle.std.proofs.Common.{◌≡◌, ◌∙◌, sym, ap, List}
use Rattle.py_syntax.specs.declared.expr.Expr.{Expr}
use Rattle.py_syntax.specs.declared.stmt.Branch.{Branch, fold-roll-Branch}
use Rattle.py_syntax.specs.declared.stmt.Stmt.{Stmt}
use Rattle.py_syntax.specs.declared.stmt.Stmt.TheVariants as tree
use Rattle.py_syntax.specs.declared.stmt.Stmt.TheVariants.{rolls-While}
use Rattle.py_syntax.specs.declared.stmt.Stmt.TheOpen.{Stmt-F}
use Rattle.py_syntax.specs.declared.stmt.Stmt.TheFolds.{fold-roll-Stmt}
use Rattle.meaning_script.specs.Pieces.{Piece, most}
use Rattle.meaning_script.specs.Operators.{Around, eval}
use Rattle.meaning_script.specs.Statements.{BranchPiece, DefPiece, HandlerPiece, stmt_at, branch_at, def_at, handler_at, turns, run, branch, run_all}

pub runs_while : (a : Around) (test : Expr) (body : List Stmt) → turns most (eval a test) (run_all a body) ≡ run a (tree.While test body)
runs_while a test body =
    sym (fold-roll-Stmt Piece BranchPiece DefPiece HandlerPiece (stmt_at a) (branch_at a) def_at (handler_at a) (Stmt-F.While test body))
    ∙ ap (run a) (rolls-While test body)

pub branch_is : (a : Around) (b : Branch) → branch a b ≡ record { test = eval a b.test; body = run_all a b.body }
branch_is a b =
    fold-roll-Branch Piece BranchPiece DefPiece HandlerPiece (stmt_at a) (branch_at a) def_at (handler_at a) (record { test = b.test; body = b.body })
