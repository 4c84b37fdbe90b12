use Rattle.std.proofs.Common.{refl, rules}
use Rattle.drive_straight.proofs.Operands.{other_begins}
use Rattle.drive_straight.proofs.choices.begin_paid.Goals as goal

pub returns-clause-moves : goal.returns-clause-moves
returns-clause-moves c =
    other_begins c.args.execution.now (record { budget = c.afford.new.budget; held = c.args.execution.now.held; thread = c.args.execution.now.thread; work = c.push.new.self })
    c.args.stmts c.args.at c.afford.new.budget c.requires.within (search rules) (c.if-not-afford.ensures.paid refl) (search rules)
