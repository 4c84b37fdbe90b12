use Rattle.std.proofs.Common.{arith, rules}
use Rattle.std.proofs.lemmas.Grind.{common_steps}
use Rattle.source_parse_expressions.proofs.Signs.{negative_read, negative_refused, inverse_read, inverse_refused}
use Rattle.source_parse_expressions.proofs.parser.+expr.Goals as goal

pub factor-returns-in_err-value-in-Minus-clause-value : goal.factor-returns-in_err-value-in-Minus-clause-value
factor-returns-in_err-value-in-Minus-clause-value t c = first_of (grind (arith, negative_refused), search (rules, negative_refused), grind (arith, common_steps, negative_refused))

pub factor-returns-in_ok-other-in-Minus-clause-value : goal.factor-returns-in_ok-other-in-Minus-clause-value
factor-returns-in_ok-other-in-Minus-clause-value t c = first_of (grind (arith, negative_read), search (rules, negative_read), grind (arith, common_steps, negative_read))

pub inversion-returns-in_err-value-in-Not-clause-value : goal.inversion-returns-in_err-value-in-Not-clause-value
inversion-returns-in_err-value-in-Not-clause-value t c = first_of (grind (arith, inverse_refused), search (rules, inverse_refused), grind (arith, common_steps, inverse_refused))

pub inversion-returns-in_ok-other-in-Not-clause-value : goal.inversion-returns-in_ok-other-in-Not-clause-value
inversion-returns-in_ok-other-in-Not-clause-value t c = first_of (grind (arith, inverse_read), search (rules, inverse_read), grind (arith, common_steps, inverse_read))
