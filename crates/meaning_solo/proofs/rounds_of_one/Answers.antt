use Rattle.meaning_solo.proofs.Alone.{alone_by}
use Rattle.meaning_solo.proofs.rounds_of_one.Goals as goal

pub returns : goal.returns
returns c = alone_by
