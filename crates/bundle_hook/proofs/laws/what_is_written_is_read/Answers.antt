use Rattle.bundle_hook.proofs.Listed.{listed_again}
use Rattle.bundle_hook.proofs.laws.what_is_written_is_read.Goals as goal

pub returns : goal.returns
returns c = listed_again
