use Rattle.meaning_script.proofs.Safety.{safe_search}
use Rattle.meaning_script.proofs.searches_are_safe.Goals as goal

pub returns : goal.returns
returns c = safe_search
