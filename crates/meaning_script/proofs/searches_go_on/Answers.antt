use Rattle.meaning_script.proofs.Embedding.{reads_stands}
use Rattle.meaning_script.proofs.searches_go_on.Goals as goal

pub returns : goal.returns
returns c = reads_stands
