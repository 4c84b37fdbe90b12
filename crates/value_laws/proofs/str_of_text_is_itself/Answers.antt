use Rattle.value_laws.proofs.TextItself.{text_is_itself}
use Rattle.value_laws.proofs.str_of_text_is_itself.Goals as goal

pub returns : goal.returns
returns c = text_is_itself
