use Rattle.std.proofs.Common.{refl}
use Rattle.meaning_script.specs.Pieces.{most}
use Rattle.find_load.proofs.import.most.Goals as goal

pub returns : goal.returns
unfolding most
returns c = refl
