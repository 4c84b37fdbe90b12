use Rattle.std.proofs.Common.{refl, rules}
use Rattle.drive_straight.proofs.AtOnce.{assigned}
use Rattle.drive_straight.proofs.blocks.assign.Goals as goal

pub returns-clause-did : goal.returns-clause-did
returns-clause-did c =
    assigned c.args.execution.now (record { budget = c.afford.new.budget; held = c.args.execution.now.held; thread = c.set_local.new.thread; work = c.args.execution.now.work })
    c.args.stmts.now c.args.at c.args.name.now c.args.value.now c.in-Value.value c.in-Value.units c.afford.new.budget c.requires.form
    (search rules) (search rules) (c.if-not-afford.ensures.paid refl) (search rules)
