use Rattle.source_print.proofs.Whole.{prints_back}
use Rattle.source_print.proofs.laws.text_is_source.Goals as goal

pub returns : goal.returns
returns c s held utf8 src from fits = prints_back s held utf8 src from fits
