use Rattle.std.proofs.Common.{List, IfOk, IfSome, rules, subst}
use Rattle.py_value.specs.declared.value.Value.{Value}
use Rattle.step_straight.specs.Comes.{Resumes}
use Rattle.drive_straight.proofs.AtOnce.{none_of, one_of}
use Rattle.drive_straight.proofs.resuming.operator.Goals as goal

pub returns-in-None : goal.returns-in-None
returns-in-None c =
    subst (λ (vs : List Value). IfOk c.with_left.result (λ found. IfSome found (λ p. Resumes c.args.expr.now vs c.args.value.now c.args.execution.now.thread p)))
    (none_of c.args.done.now (search rules)) c.with_left.ensures

pub returns-else-len-ne1 : goal.returns-else-len-ne1
returns-else-len-ne1 c =
    subst (λ (vs : List Value). IfOk c.with_right.result (λ found. IfSome found (λ p. Resumes c.args.expr.now vs c.args.value.now c.args.execution.now.thread p)))
    (one_of c.args.done.now c.in-Some.left.now (search rules) (search rules)) c.with_right.ensures
