use Rattle.std.proofs.Common.{◌∙◌, ap}
use Rattle.std.proofs.lemmas.Result.{IfOk-weaker}
use Rattle.base_spelling.specs.Read.{source_in}
use Rattle.base_spelling.proofs.Takes.{source_given, source_again}
use Rattle.base_spelling.proofs.read.read_source.Goals as goal

pub returns-clause-given : goal.returns-clause-given
returns-clause-given c = IfOk-weaker c.source_of.result _ _ (λ o e. source_given c.args.field.now o e) c.source_of.ensures

pub returns-clause-only : goal.returns-clause-only
returns-clause-only c = λ bytes small is. IfOk-weaker c.source_of.result _ _ (λ o e. e ∙ ap source_in is ∙ source_again bytes small) c.source_of.ensures
