use Rattle.program_check.proofs.Verdicts.{text_says}
use Rattle.program_check.proofs.laws.yes_says.Goals as goal

pub returns : goal.returns
returns c = text_says c.yes_exactly_there.ensures
