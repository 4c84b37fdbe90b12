use Rattle.meaning_safety.proofs.Parts.{displays}
use Rattle.meaning_safety.proofs.displays_hold.Goals as goal

pub returns : goal.returns
returns c = displays
