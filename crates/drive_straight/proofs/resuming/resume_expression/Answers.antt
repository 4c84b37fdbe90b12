use Rattle.std.proofs.Common.{refl, rules}
use Rattle.meaning_state.specs.declared.flow.Flow.TheVariants.{Went}
use Rattle.py_frames.specs.declared.work.Form.TheVariants.{Expression}
use Rattle.py_frames.specs.declared.work.Frame.TheVariants as frame
use Rattle.py_frames.specs.declared.work.Item.TheVariants as it
use Rattle.drive_straight.specs.Remains.{begins, comes, goes_on}
use Rattle.drive_straight.specs.declared.execution.Execution.{Execution}
use Rattle.drive_straight.proofs.Operands.{leads_behind, operand_came, operator_came, same_run}
use Rattle.drive_straight.proofs.resuming.resume_expression.Goals as goal

pub returns-in_ok-push-in-None-clause-moves : goal.returns-in_ok-push-in-None-clause-moves
returns-in_ok-push-in-None-clause-moves c =
    let old = c.args.execution.now in
    leads_behind old old c.gather.new.execution (goes_on (frame.Operands (Expression c.args.expr) c.args.done) (Went c.args.value)) (begins (it.Operands (Expression c.args.expr) c.push.new.self)) c.gather.result
    (same_run old.budget _ _ (operand_came old c.args.expr c.args.done c.push.new.self c.args.value (search rules))) c.gather.ensures.moves

pub returns-else-not-afford-clause-moves : goal.returns-else-not-afford-clause-moves
returns-else-not-afford-clause-moves c =
    let old = c.args.execution.now in
    let paid : Execution = record { budget = c.afford.new.budget; held = old.held; thread = old.thread; work = old.work } in
    leads_behind old paid c.come.new.execution (goes_on (frame.Operands (Expression c.args.expr) c.args.done) (Went c.args.value)) (comes c.args.expr c.in-Some.field-0.given) c.come.result
    (operator_came old paid c.args.expr c.args.done c.args.value c.in-Some.field-0 c.afford.new.budget (c.if-not-afford.ensures.paid refl) (search rules) refl) c.come.ensures.moves
