use Rattle.py_lexer.proofs.Reversed.{changes_reversed}
use Rattle.py_lexer.proofs.indent.settle.Goals as goal

pub returns-clause-value : goal.returns-clause-value
returns-clause-value c = changes_reversed c.args.stack.now.items c.settle_last.new.stack.items c.args.at c.settle_last.result c.requires c.settle_last.ensures.value
