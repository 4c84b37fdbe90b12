use Rattle.source_combinators.proofs.Theorem.{sound}
use Rattle.py_syntax.specs.Expressions.{IsExpr}
use Rattle.source_spec_lines.specs.Expressions.{expr}
use Rattle.source_spec_lines.proofs.Whole.{expr_reader}
use Rattle.source_spec_lines.proofs.read_is_spelled.Goals as goal

pub returns : goal.returns
returns c room ts rest e h = sound expr IsExpr expr_reader room ts e rest h
