use Rattle.std.proofs.Common.{rules}
use Rattle.step_straight.proofs.OperatorCosts.{has_both, waits_left}
use Rattle.step_straight.proofs.operators.gather.Goals as goal

pub returns-in-Some-checked_add : goal.returns-in-Some-checked_add
returns-in-Some-checked_add c =
    has_both c.args.expr.now c.args.a.now c.args.b.now c.args.thread.now.state c.in-Some.x.value c.in-Some-2.y.value
    c.in-Some.x.units c.in-Some-2.y.units c.in-Some-checked_add.units c.requires.two
    (search rules) (search rules) c.in-Some-checked_add.ensures.1 (search rules) (search rules)

pub returns-in-None : goal.returns-in-None
returns-in-None c = rw (c.in_ok-share-in-None.ensures, c.new.ensures) (waits_left c.args.expr.now c.args.a.now c.args.b.now c.args.thread.now c.requires.two)
