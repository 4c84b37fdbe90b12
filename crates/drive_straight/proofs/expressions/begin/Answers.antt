use Rattle.std.proofs.Common.{rules}
use Rattle.py_frames.specs.declared.work.Form.TheVariants.{Expression}
use Rattle.py_frames.specs.declared.work.Item.TheVariants as it
use Rattle.drive_straight.specs.Remains.{begins}
use Rattle.drive_straight.proofs.Operands.{leads_behind, operated, same_run}
use Rattle.drive_straight.proofs.expressions.begin.Goals as goal

pub returns-then-is_operated-clause-moves : goal.returns-then-is_operated-clause-moves
returns-then-is_operated-clause-moves c =
    let old = c.args.execution.now in
    leads_behind old old c.gather.new.execution (begins (it.Eval c.args.expr)) (begins (it.Operands (Expression c.args.expr) c.new.result)) c.gather.result
    (same_run old.budget _ _ (operated old c.args.expr c.new.result (search rules) c.new.ensures)) c.gather.ensures.moves
