use Rattle.bundle_hook.proofs.Listed.{stand_in}
use Rattle.bundle_hook.proofs.laws.bytes_stand_there.Goals as goal

pub returns : goal.returns
returns c = stand_in
