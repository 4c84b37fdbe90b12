use Rattle.meaning_safety.proofs.Parts.{items_known}
use Rattle.meaning_safety.proofs.items_are_known.Goals as goal

pub returns : goal.returns
returns c = items_known
