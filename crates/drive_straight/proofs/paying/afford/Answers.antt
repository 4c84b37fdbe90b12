use Rattle.std.proofs.Common.{rules}
use Rattle.drive_straight.proofs.AtOnce.{affords}
use Rattle.drive_straight.proofs.paying.afford.Goals as goal

pub returns-clause-paid : goal.returns-clause-paid
returns-clause-paid c =
    λ _. affords c.args.budget.now c.pay.new.self c.args.units c.if-budget-units.false (c.pay.ensures.left (search rules)) (c.pay.ensures.told (search rules))
