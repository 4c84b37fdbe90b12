use Rattle.py_lexer.specs.SourceReading.{source}
use Rattle.py_lexer.proofs.Sources.{gives, one_answer}
use Rattle.py_lexer.proofs.laws.one_answer.Goals as goal

pub returns-clause-some : goal.returns-clause-some
returns-clause-some c = (source c.args.src.now, gives c.args.src.now)

pub returns-clause-alone : goal.returns-clause-alone
returns-clause-alone c = one_answer c.args.src.now
