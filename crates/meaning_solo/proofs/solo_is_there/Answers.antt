use Rattle.meaning_solo.proofs.Some.{solo_some}
use Rattle.meaning_solo.proofs.solo_is_there.Goals as goal

pub returns : goal.returns
returns c = solo_some
