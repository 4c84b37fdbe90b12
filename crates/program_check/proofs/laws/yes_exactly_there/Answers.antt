use Rattle.program_check.proofs.Verdicts.{text_yes}
use Rattle.program_check.proofs.laws.yes_exactly_there.Goals as goal

pub returns : goal.returns
returns c = text_yes c.yes_exactly_there.ensures
