use Rattle.meaning_safety.proofs.Operators.{operators}
use Rattle.meaning_safety.proofs.operators_hold.Goals as goal

pub returns : goal.returns
returns c = operators
