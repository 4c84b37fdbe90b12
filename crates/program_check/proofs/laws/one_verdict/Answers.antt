use Rattle.program_check.proofs.Verdicts.{text_one}
use Rattle.program_check.proofs.laws.one_verdict.Goals as goal

pub returns : goal.returns
returns c = text_one c.no_other_replay.ensures c.no_other_verdict.ensures
