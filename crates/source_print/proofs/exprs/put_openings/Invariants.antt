use Rattle.std.proofs.Common.{◌≡◌, ◌++◌, ◌≤◌, map}
use Rattle.py_syntax.proofs.expr.Expr.TheLaws.{the_size}
use Rattle.source_print.specs.Expressions.{expr_tokens}
use Rattle.source_print.specs.Parts.{behind, NoDeeper}
use Rattle.source_print.proofs.exprs.put_openings.Given as goal

-- what is left is no deeper than the whole, and what was come by is put once all that stands behind is put
abbrev pub invariant-loop-parts : goal.invariant-loop-parts
invariant-loop-parts l = record {
  put : l.out ++ (expr_tokens l.current ++ behind (map (λ p. p.now) l.parts)) ≡ l.initial.out ++ expr_tokens l.fn.expr;
  within : NoDeeper (the_size l.fn.expr) (map (λ p. p.now) l.parts);
  part : the_size l.current ≤ the_size l.fn.expr;
}

abbrev pub decreases-loop-parts : goal.decreases-loop-parts
decreases-loop-parts l = the_size l.current
