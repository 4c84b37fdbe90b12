use Rattle.std.proofs.Common.{refl, rules}
use Rattle.py_frames.specs.declared.work.Item.TheVariants as it
use Rattle.drive_straight.specs.Remains.{begins, comes}
use Rattle.drive_straight.specs.declared.execution.Execution.{Execution}
use Rattle.drive_straight.proofs.Operands.{expression_came, leads_behind}
use Rattle.drive_straight.proofs.expressions.take.Goals as goal

pub returns-else-not-afford-clause-moves : goal.returns-else-not-afford-clause-moves
returns-else-not-afford-clause-moves c =
    let old = c.args.execution.now in
    let paid : Execution = record { budget = c.afford.new.budget; held = old.held; thread = old.thread; work = old.work } in
    leads_behind old paid c.come.new.execution (begins (it.Eval c.args.expr)) (comes c.args.expr c.in-Some.field-0.given) c.come.result
    (expression_came old paid c.args.expr c.in-Some.field-0 c.afford.new.budget (c.if-not-afford.ensures.paid refl) (search rules) refl) c.come.ensures.moves
