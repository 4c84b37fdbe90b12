use Rattle.source_print.proofs.Statements.{script_printed}
use Rattle.source_print.proofs.laws.printed_is_spelled.Goals as goal

pub returns : goal.returns
returns c room ts s h = script_printed room ts s h
