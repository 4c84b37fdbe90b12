use Rattle.trace_read.proofs.Entries.{entry_told}
use Rattle.trace_read.proofs.laws.read_entry_is_spelled.Goals as goal

pub returns : goal.returns
returns c = entry_told
