use Rattle.std.proofs.Common.{◌∙◌, ap}
use Rattle.base_spelling.specs.Numbers.{number_in}
use Rattle.base_spelling.proofs.Spelled.{number_given, number_again}
use Rattle.base_spelling.proofs.decimal.read_number.Goals as goal

pub returns-clause-given : goal.returns-clause-given
returns-clause-given c = number_given c.args.text.now c.number_of.result c.number_of.ensures

pub returns-clause-only : goal.returns-clause-only
returns-clause-only c = λ n small is. c.number_of.ensures ∙ ap number_in is ∙ number_again n small
