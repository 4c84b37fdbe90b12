use Rattle.meaning_script.proofs.Embedding.{reads_listed}
use Rattle.meaning_script.proofs.searches_list.Goals as goal

pub returns : goal.returns
returns c = reads_listed
