use Rattle.meaning_solo.proofs.On.{solo_on}
use Rattle.meaning_solo.proofs.solo_goes_on.Goals as goal

pub returns : goal.returns
returns c = solo_on
