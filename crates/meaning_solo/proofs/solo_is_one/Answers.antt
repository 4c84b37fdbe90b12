use Rattle.meaning_solo.proofs.One.{solo_one}
use Rattle.meaning_solo.proofs.solo_is_one.Goals as goal

pub returns : goal.returns
returns c = solo_one
