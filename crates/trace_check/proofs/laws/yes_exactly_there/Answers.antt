use Rattle.trace_check.proofs.Judging.{verdict_yes}
use Rattle.trace_check.proofs.laws.yes_exactly_there.Goals as goal

pub returns : goal.returns
returns c = verdict_yes
