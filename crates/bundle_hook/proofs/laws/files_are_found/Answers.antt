use Rattle.bundle_hook.proofs.Filled.{filled, filled_back}
use Rattle.bundle_hook.proofs.laws.files_are_found.Goals as goal

pub returns : goal.returns
returns c = λ files bytes. (filled_back files bytes, filled files bytes)
