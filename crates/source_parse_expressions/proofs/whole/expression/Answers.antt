use Rattle.py_syntax.specs.Expressions.{IsExpr}
use Rattle.source_combinators.proofs.Theorem.{gives_spelled, gives_refused}
use Rattle.source_spec_lines.specs.Expressions.{expr}
use Rattle.source_spec_lines.proofs.Whole.{expr_reader, front_read}
use Rattle.source_parse_expressions.proofs.whole.expression.Goals as goal

pub returns-clause-spelled : goal.returns-clause-spelled
returns-clause-spelled c = gives_spelled expr IsExpr expr_reader c.args.room c.args.tokens.now c.expr.result c.expr.ensures.value

pub returns-clause-only : goal.returns-clause-only
returns-clause-only c front rest value p s q = front_read c.args.room c.args.tokens.now c.expr.result c.expr.ensures.value front rest value p s q

pub returns-clause-refused : goal.returns-clause-refused
returns-clause-refused c fault e = gives_refused expr IsExpr expr_reader c.args.room c.args.tokens.now c.expr.result fault c.expr.ensures.value e
