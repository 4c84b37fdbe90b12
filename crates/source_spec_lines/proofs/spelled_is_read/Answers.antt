use Rattle.source_spec_lines.proofs.ExpressionComplete.{complete_expr}
use Rattle.source_spec_lines.proofs.spelled_is_read.Goals as goal

pub returns : goal.returns
returns c room front rest e h s = complete_expr h rest s
