use Rattle.py_lexer.proofs.Sources.{told_given, told_only}
use Rattle.py_lexer.proofs.source.tokens.Goals as goal

pub returns-clause-given : goal.returns-clause-given
returns-clause-given c = told_given c.args.src.now c.read.result c.read.ensures

pub returns-clause-only : goal.returns-clause-only
returns-clause-only c answer = told_only c.args.src.now c.read.result c.read.ensures answer
