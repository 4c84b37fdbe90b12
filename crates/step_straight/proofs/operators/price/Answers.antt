use Rattle.std.proofs.Common.{arith}
use Rattle.step_straight.proofs.OperatorCosts.{prices_value, prices_error}
use Rattle.step_straight.proofs.operators.price.Goals as goal

pub returns-in_ok-units-in-Value : goal.returns-in_ok-units-in-Value
returns-in_ok-units-in-Value c = prices_value c.args.applied c.in-Value.value c.args.before c.in_ok-units-in-Value.units c.in-Value.is
    (omega (arith, c.in_ok-units.ensures.1, c.in_ok-units-in-Value.ensures.1, c.size.ensures))

pub returns-in-Raised : goal.returns-in-Raised
returns-in-Raised c = prices_error c.args.applied c.in-Raised.error c.args.before c.in_ok-units.units c.in-Raised.is c.in_ok-units.ensures.1
