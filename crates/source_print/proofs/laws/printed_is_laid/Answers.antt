use Rattle.source_print.specs.Lines.{Passes}
use Rattle.source_print.proofs.LaidStatements.{script_laid}
use Rattle.source_print.proofs.laws.printed_is_laid.Goals as goal

pub returns : goal.returns
returns c p room ts s h held = script_laid (Passes p) room ts s h held
