use Rattle.std.proofs.Common.{rules}
use Rattle.drive_straight.proofs.Operands.{same_run, test_holds}
use Rattle.drive_straight.proofs.deciding.decide.Goals as goal

pub returns-clause-moves : goal.returns-clause-moves
returns-clause-moves c =
    same_run c.args.execution.now.budget _ _ (test_holds c.args.execution.now (record { budget = c.args.execution.now.budget; held = c.args.execution.now.held; thread = c.args.execution.now.thread; work = c.push.new.self })
    c.args.test c.args.body c.in_ok-stmts.stmts c.args.turns c.args.value (search rules) (search rules) (search rules) (search rules))
