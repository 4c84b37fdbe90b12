-- The reader of scripts is right, reads what is spelled, and agrees with one more level.
use Rattle.std.proofs.Common.{ℕ}
use Rattle.source_combinators.proofs.Theorem.{IsReader}
use Rattle.py_syntax.specs.Grammar.{Spells}
use Rattle.source_spec_statements.specs.Reading.{script}
use Rattle.source_spec_statements.proofs.Scripts.{right_script}
use Rattle.source_spec_statements.proofs.Agrees.{agree_script}
use Rattle.source_spec_statements.proofs.Complete.{complete_script}

pub script_reader : IsReader script Spells
script_reader = record { right = right_script; complete = complete_script; agrees = agree_script }
