use Rattle.std.proofs.Common.{◌∙◌, ap}
use Rattle.std.proofs.lemmas.Result.{IfOk-weaker}
use Rattle.base_spelling.specs.Read.{text_in}
use Rattle.base_spelling.proofs.Takes.{text_given, text_again}
use Rattle.base_spelling.proofs.read.read_quoted.Goals as goal

pub returns-clause-given : goal.returns-clause-given
returns-clause-given c = IfOk-weaker c.text_of.result _ _ (λ o e. text_given c.args.field.now o e) c.text_of.ensures

pub returns-clause-only : goal.returns-clause-only
returns-clause-only c = λ text utf8 is. IfOk-weaker c.text_of.result _ _ (λ o e. e ∙ ap text_in is ∙ text_again text utf8) c.text_of.ensures
