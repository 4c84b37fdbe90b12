use Rattle.source_combinators.proofs.Theorem.{first_refused}
use Rattle.py_syntax.specs.Expressions.{IsExpr}
use Rattle.source_spec_lines.specs.Expressions.{expr}
use Rattle.source_spec_lines.proofs.Whole.{expr_reader}
use Rattle.source_spec_lines.proofs.refused_is_first.Goals as goal

pub returns : goal.returns
returns c room ts fault h = first_refused expr IsExpr expr_reader room ts fault h
