use Rattle.tree_files.proofs.Listings.{listing_told}
use Rattle.tree_files.proofs.laws.listing_is_one.Goals as goal

pub returns : goal.returns
returns c = listing_told
