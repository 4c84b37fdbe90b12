use Rattle.std.proofs.Common.{arith}
use Rattle.py_lexer.proofs.Steps.{dedent_more}
use Rattle.py_lexer.proofs.scan.push_dedents.Goals as goal

pub levels-preserved : goal.levels-preserved
levels-preserved c = dedent_more c.levels.out _ c.levels.left c.args.line _ (omega arith) c.in_ok-push.ensures.ok c.levels.invariant
