use Rattle.source_combinators.proofs.Theorem.{first_refused}
use Rattle.py_syntax.specs.Grammar.{Spells}
use Rattle.source_spec_statements.specs.Reading.{script}
use Rattle.source_spec_statements.proofs.Whole.{script_reader}
use Rattle.source_spec_statements.proofs.refused_is_first.Goals as goal

pub returns : goal.returns
returns c room ts fault h = first_refused script Spells script_reader room ts fault h
