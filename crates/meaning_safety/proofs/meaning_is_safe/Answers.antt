use Rattle.meaning_safety.proofs.Meaning.{meaning_safe}
use Rattle.meaning_safety.proofs.meaning_is_safe.Goals as goal

pub returns : goal.returns
returns c = meaning_safe
