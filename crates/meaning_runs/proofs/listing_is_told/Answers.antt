use Rattle.tree_files.proofs.Listings.{listing_told}
use Rattle.meaning_runs.proofs.listing_is_told.Goals as goal

pub returns : goal.returns
returns c = listing_told
