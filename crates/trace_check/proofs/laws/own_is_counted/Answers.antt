use Rattle.trace_check.proofs.Lists.{own_made}
use Rattle.trace_check.proofs.laws.own_is_counted.Goals as goal

pub returns : goal.returns
returns c = own_made
