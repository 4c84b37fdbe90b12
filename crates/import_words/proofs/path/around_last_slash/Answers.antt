use Rattle.import_words.proofs.Cuts.{cut_once}
use Rattle.import_words.proofs.path.around_last_slash.Goals as goal

pub returns : goal.returns
returns c = cut_once _ _ c.rsplit_once.ensures.cases
