use Rattle.meaning_solo.proofs.Some.{solo_free}
use Rattle.meaning_solo.proofs.solo_without_stops.Goals as goal

pub returns : goal.returns
returns c = solo_free
