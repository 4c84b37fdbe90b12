use Rattle.std.proofs.Common.{◌∙◌, ap, subst}
use Rattle.trace_read.specs.Reading.{Gives, format_and_entries, trace_in}
use Rattle.trace_read.proofs.Lines.{trace_again}
use Rattle.trace_read.proofs.Found.{is_found, is_refusal}
use Rattle.trace_read.proofs.read.read_trace.Goals as goal

pub returns-clause-found : goal.returns-clause-found
returns-clause-found c = is_found c.args.bytes.now c.trace_in.result c.trace_in.ensures

pub returns-clause-only : goal.returns-clause-only
returns-clause-only c = λ old entries fits bytes is. subst (λ read. Gives format_and_entries c.trace_in.result read) (ap trace_in is ∙ trace_again old entries fits bytes) c.trace_in.ensures

pub returns-clause-refused : goal.returns-clause-refused
returns-clause-refused c = is_refusal c.args.bytes.now c.trace_in.result c.trace_in.ensures
