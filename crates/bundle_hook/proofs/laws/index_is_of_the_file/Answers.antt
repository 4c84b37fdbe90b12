use Rattle.bundle_hook.proofs.Filled.{index_is}
use Rattle.bundle_hook.proofs.laws.index_is_of_the_file.Goals as goal

pub returns : goal.returns
returns c = index_is
