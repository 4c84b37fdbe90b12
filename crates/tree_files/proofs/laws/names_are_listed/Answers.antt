use Rattle.tree_files.proofs.Listings.{names_in-listing}
use Rattle.tree_files.proofs.laws.names_are_listed.Goals as goal

pub returns : goal.returns
returns c = names_in-listing
