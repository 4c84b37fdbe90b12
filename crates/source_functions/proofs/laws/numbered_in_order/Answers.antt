use Rattle.source_functions.proofs.Numbers.{numbered}
use Rattle.source_functions.proofs.laws.numbered_in_order.Goals as goal

pub returns : goal.returns
returns c = numbered
