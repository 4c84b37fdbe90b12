use Rattle.meaning_safety.proofs.Parts.{plain}
use Rattle.meaning_safety.proofs.plain_values_hold.Goals as goal

pub returns : goal.returns
returns c = plain
