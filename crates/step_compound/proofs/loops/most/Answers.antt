use Rattle.std.proofs.Common.{refl}
use Rattle.meaning_script.specs.Pieces.{most}
use Rattle.step_compound.proofs.loops.most.Goals as goal

pub returns : goal.returns
unfolding most
returns c = refl
