use Rattle.std.proofs.Common.{ap, rules}
use Rattle.py_frames.specs.declared.work.Item.TheVariants as it
use Rattle.step_straight.specs.declared.given.Given.{Given}
use Rattle.drive_straight.specs.Remains.{begins, comes, gives}
use Rattle.drive_straight.specs.declared.execution.Execution.{Execution}
use Rattle.drive_straight.proofs.Operands.{leads_behind, operand_given, same_run}
use Rattle.drive_straight.proofs.coming.come.Goals as goal

pub returns-in-Value-clause-moves : goal.returns-in-Value-clause-moves
returns-in-Value-clause-moves c =
    let old = c.args.execution.now in
    leads_behind old old c.give.new.execution (comes c.args.expr c.args.given) (gives c.in-Value.value) c.give.result
    (same_run old.budget _ _ (ap (λ (g : Given). comes c.args.expr g old) c.in-Value.is)) c.give.ensures.moves

pub returns-in_ok-push-in-Waits-clause-moves : goal.returns-in_ok-push-in-Waits-clause-moves
returns-in_ok-push-in-Waits-clause-moves c =
    let old = c.args.execution.now in
    let mid : Execution = record { budget = old.budget; held = old.held; thread = old.thread; work = c.push.new.self } in
    leads_behind old mid c.reach.new.execution (comes c.args.expr c.args.given) (begins (it.Eval c.in-Waits.operand)) c.reach.result
    (same_run old.budget _ _ (operand_given old mid c.args.expr c.args.given c.in-Waits.operand c.in-Waits.done c.in-Waits.is (search rules))) c.reach.ensures.moves
