use Rattle.trace_check.proofs.Replaying.{replay_one}
use Rattle.trace_check.proofs.laws.no_other_replay.Goals as goal

pub returns : goal.returns
returns c = replay_one
