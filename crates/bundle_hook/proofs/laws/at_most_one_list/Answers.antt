use Rattle.bundle_hook.proofs.Indexed.{one_list}
use Rattle.bundle_hook.proofs.laws.at_most_one_list.Goals as goal

pub returns : goal.returns
returns c = one_list
