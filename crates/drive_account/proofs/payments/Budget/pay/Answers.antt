use Rattle.std.proofs.Common.{arith}
use Rattle.drive_account.proofs.Paying.{at_paid}
use Rattle.drive_account.proofs.payments.Budget.pay.Goals as goal

pub returns-clause-moves : goal.returns-clause-moves
returns-clause-moves c = λ files whole fuel mine next a.
    at_paid c.args.self.now c.take.new.self c.args.units c.args.of_tree next (omega (arith, c.if-self-units.false)) c.take.ensures.left c.take.ensures.told a
