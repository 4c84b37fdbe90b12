use Rattle.source_combinators.proofs.Theorem.{sound}
use Rattle.py_syntax.specs.Grammar.{Spells}
use Rattle.source_spec_statements.specs.Reading.{script}
use Rattle.source_spec_statements.proofs.Whole.{script_reader}
use Rattle.source_spec_statements.proofs.read_is_spelled.Goals as goal

pub returns : goal.returns
returns c room ts rest s h = sound script Spells script_reader room ts s rest h
