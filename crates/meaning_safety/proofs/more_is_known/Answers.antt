use Rattle.meaning_safety.proofs.Parts.{more}
use Rattle.meaning_safety.proofs.more_is_known.Goals as goal

pub returns : goal.returns
returns c = more
