use Rattle.std.proofs.Common.{refl}
use Rattle.drive_straight.proofs.Operands.{returned_at_once}
use Rattle.drive_straight.proofs.blocks.leave_block.Goals as goal

pub returns-clause-moves : goal.returns-clause-moves
returns-clause-moves c =
    returned_at_once c.args.execution.now (record { budget = c.afford.new.budget; held = c.args.execution.now.held; thread = c.args.execution.now.thread; work = c.args.execution.now.work })
    c.args.stmts c.args.at c.args.value c.args.units c.afford.new.budget c.requires.returned (c.if-not-afford.ensures.paid refl) refl
