use Rattle.words_rounds.proofs.Refused.{one_list}
use Rattle.words_rounds.proofs.laws.at_most_one_list.Goals as goal

pub returns : goal.returns
returns c = one_list
