use Rattle.std.proofs.Common.{rules}
use Rattle.drive_straight.proofs.Operands.{call_applied, same_run}
use Rattle.drive_straight.proofs.gathering.call.Goals as goal

pub returns-clause-moves : goal.returns-clause-moves
returns-clause-moves c =
    let old = c.args.execution.now in
    same_run old.budget _ _ (call_applied old (record { budget = old.budget; held = old.held; thread = old.thread; work = c.push.new.self })
    c.args.expr c.args.values c.remove-callee.new.self c.remove-callee.result c.requires.form (search rules) (search rules) (search rules))
