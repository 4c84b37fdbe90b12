use Rattle.std.proofs.Common.{◌≡◌, ◌++◌, length, map, take}
use Rattle.py_syntax.proofs.expr.Expr.TheLaws.{the_size}
use Rattle.source_print.specs.Expressions.{items, print_of, expr_tokens}
use Rattle.source_print.specs.Parts.{behind, NoDeeper}
use Rattle.source_print.proofs.exprs.+exprs.Given as goal

-- what is still to come stands behind the expressions that are left
abbrev pub invariant-put_expr-loop-part : goal.invariant-put_expr-loop-part
invariant-put_expr-loop-part l = record {
  put : l.out ++ behind (map (λ p. p.now) l.parts) ≡ l.fn.out ++ expr_tokens l.fn.expr;
  within : NoDeeper (the_size l.fn.expr) (map (λ p. p.now) l.parts);
}

abbrev pub decreases-put_expr-loop-part : goal.decreases-put_expr-loop-part
decreases-put_expr-loop-part l = length l.parts

abbrev pub invariant-put_items-loop-n : goal.invariant-put_items-loop-n
invariant-put_items-loop-n l = l.out ≡ l.initial.out ++ items (map print_of (take l.n l.items))
