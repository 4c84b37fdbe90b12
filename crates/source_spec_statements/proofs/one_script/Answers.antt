use Rattle.source_combinators.proofs.Theorem.{one_value}
use Rattle.py_syntax.specs.Grammar.{Spells}
use Rattle.source_spec_statements.specs.Reading.{script}
use Rattle.source_spec_statements.proofs.Whole.{script_reader}
use Rattle.source_spec_statements.proofs.one_script.Goals as goal

pub returns : goal.returns
returns c room ts a b h k = one_value script Spells script_reader room ts a b h k
