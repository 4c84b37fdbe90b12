use Rattle.trace_check.proofs.Replaying.{replay_exact}
use Rattle.trace_check.proofs.laws.legal_exactly_there.Goals as goal

pub returns : goal.returns
returns c = replay_exact
