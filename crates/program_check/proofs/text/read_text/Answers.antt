use Rattle.std.proofs.Common.{List, ℕ, subst}
use Rattle.trace_read.specs.Reading.{Gives, trace_in, format_and_entries}
use Rattle.program_check.proofs.text.read_text.Goals as goal

pub returns : goal.returns
returns c = subst (λ (b : List ℕ). Gives format_and_entries c.read_trace.result (trace_in b)) c.as_slice.ensures c.read_trace.ensures.exact
