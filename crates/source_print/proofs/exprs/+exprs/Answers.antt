use Rattle.std.proofs.Common.{◌≤◌, arith}
use Rattle.py_syntax.specs.declared.expr.Expr.{size-Expr}
use Rattle.source_print.proofs.Parts.{went_up, within_before, within_last}
use Rattle.source_print.proofs.exprs.+exprs.Goals as goal

pub put_expr-put_own-requires-in-Some : goal.put_expr-put_own-requires-in-Some
put_expr-put_own-requires-in-Some t c =
    let no_deeper : size-Expr c.in-Some.part.now ≤ size-Expr c.args.expr.now = within_last (size-Expr c.args.expr.now) c.pop.new.self c.loop-part.parts c.in-Some.part c.in-Some.ensures c.loop-part.invariant.within in
    (omega (arith, c.decreases, no_deeper), tt)

pub put_expr-loop-part-preserved : goal.put_expr-loop-part-preserved
put_expr-loop-part-preserved t c = record {
  put = went_up c.loop-part.out c.put_closing.new.out c.put_own-in-Some.new.out _ c.pop.new.self c.loop-part.parts c.in-Some.part c.in-Some.ensures c.in_ok-put_closing.ensures c.in_ok-put_own.ensures c.loop-part.invariant.put;
  within = within_before (size-Expr c.args.expr.now) c.pop.new.self c.loop-part.parts c.in-Some.part c.in-Some.ensures c.loop-part.invariant.within;
}
