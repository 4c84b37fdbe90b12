use Rattle.py_parser.proofs.Computed.{parses_so, parses_only}
use Rattle.py_parser.proofs.laws.one_answer.Goals as goal

pub returns-clause-some : goal.returns-clause-some
returns-clause-some c = parses_so c.args.src.now

pub returns-clause-alone : goal.returns-clause-alone
returns-clause-alone c answer = parses_only c.args.src.now answer
