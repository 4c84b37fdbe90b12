use Rattle.words_rounds.proofs.Found.{file_found}
use Rattle.words_rounds.proofs.laws.what_is_spelled_is_read.Goals as goal

pub returns : goal.returns
returns c = file_found
