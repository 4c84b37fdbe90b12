use Rattle.trace_check.proofs.Judging.{verdict_one}
use Rattle.trace_check.proofs.laws.no_other_verdict.Goals as goal

pub returns : goal.returns
returns c = verdict_one
