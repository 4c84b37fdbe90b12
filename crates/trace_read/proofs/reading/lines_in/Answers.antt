use Rattle.std.proofs.Common.{sym, subst}
use Rattle.trace_read.specs.Reading.{Gives, format_and_entries}
use Rattle.trace_read.proofs.Steps.{two_up}
use Rattle.trace_read.proofs.reading.lines_in.Goals as goal

pub returns-in-len2-up : goal.returns-in-len2-up
returns-in-len2-up c = subst (Gives format_and_entries c.opened.result) (sym (two_up c.args.pieces.now _ _ c.in-len2-up.len_at_least)) c.opened.ensures
