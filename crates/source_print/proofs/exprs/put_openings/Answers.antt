use Rattle.std.proofs.Common.{arith}
use Rattle.py_syntax.specs.declared.expr.Expr.{size-Expr}
use Rattle.source_print.proofs.Parts.{went_down, came_down, within_push}
use Rattle.source_print.proofs.exprs.put_openings.Goals as goal

pub loop-parts-preserved : goal.loop-parts-preserved
loop-parts-preserved c = record {
  put = went_down c.loop-parts.out c.put_parenthesis.new.out _ c.loop-parts.parts c.push.new.self c.loop-parts.current c.in-Some.left c.in-Some.least c.in_ok-push.ensures.ok c.in-Some.ensures.value c.in_ok-put_parenthesis-in-Some.ensures c.loop-parts.invariant.put;
  within = within_push (size-Expr c.args.expr.now) c.loop-parts.parts c.push.new.self c.loop-parts.current c.in_ok-push.ensures.ok c.loop-parts.invariant.within c.loop-parts.invariant.part;
  part = omega (arith, c.in-Some.ensures.smaller, c.loop-parts.invariant.part);
}

pub returns-in-None-clause-put : goal.returns-in-None-clause-put
returns-in-None-clause-put c = came_down c.loop-parts.out _ c.loop-parts.parts c.push.new.self c.loop-parts.current c.in_ok-push.ensures.ok c.in-None.ensures.value c.loop-parts.invariant.put

pub returns-in-None-clause-within : goal.returns-in-None-clause-within
returns-in-None-clause-within c = within_push (size-Expr c.args.expr.now) c.loop-parts.parts c.push.new.self c.loop-parts.current c.in_ok-push.ensures.ok c.loop-parts.invariant.within c.loop-parts.invariant.part
