use Rattle.std.proofs.Common.{rules}
use Rattle.step_straight.proofs.OperatorCosts.{comes_comparison, if_priced}
use Rattle.step_straight.proofs.operators.comparison.Goals as goal

pub returns-in_ok-compared-in-Values : goal.returns-in_ok-compared-in-Values
returns-in_ok-compared-in-Values c =
    if_priced c.price.result (λ p h. comes_comparison c.args.expr.now c.args.a.now c.args.b.now c.args.thread.now c.args.op
    c.in-Values.x c.in-Values.y c.in-Values.units c.in_ok-compared-in-Values.field-0 p c.requires.form
    (search rules) (search rules) h) c.price.ensures
