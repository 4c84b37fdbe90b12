use Rattle.source_combinators.proofs.Theorem.{one_value}
use Rattle.py_syntax.specs.Expressions.{IsExpr}
use Rattle.source_spec_lines.specs.Expressions.{expr}
use Rattle.source_spec_lines.proofs.Whole.{expr_reader}
use Rattle.source_spec_lines.proofs.one_expression.Goals as goal

pub returns : goal.returns
returns c room ts a b h k = one_value expr IsExpr expr_reader room ts a b h k
