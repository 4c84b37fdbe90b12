use Rattle.path_finder.proofs.Finding.{walk_finds}
use Rattle.path_finder.proofs.laws.a_search_ends_in_what_is_found.Goals as goal

pub returns : goal.returns
returns c = walk_finds
