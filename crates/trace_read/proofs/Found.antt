-- What the reader answers.
use Rattle.std.proofs.Common.{ℕ, List, Result, Ok, Err, IfOk}
use Rattle.std.specs.Result.{IfErr}
use Rattle.trace_read.specs.declared.trace.Trace.{Trace}
use Rattle.trace_read.specs.declared.trace.TraceError.{TraceError}
use Rattle.trace_read.specs.declared.trace.TraceError.TheVariants as error
use Rattle.trace_read.specs.Reading.{Gives, format_and_entries, trace_in}
use Rattle.trace_read.specs.Text.{Spelled}
use Rattle.trace_read.specs.Refusing.{IsRefusal}
use Rattle.trace_read.proofs.Lines.{trace_told}
use Rattle.trace_read.proofs.LinesStop.{refused_line}

pub is_found : (bytes : List ℕ) (result : Result Trace TraceError) → Gives format_and_entries result (trace_in bytes) → IfOk result (λ trace. Spelled bytes (format_and_entries trace))
is_found bytes (Ok trace) h = trace_told bytes (format_and_entries trace) h
is_found bytes (Err e) h = tt

pub is_refusal : (bytes : List ℕ) (result : Result Trace TraceError) → Gives format_and_entries result (trace_in bytes) → IfErr result (λ e. IsRefusal bytes e)
is_refusal bytes (Ok trace) h = tt
is_refusal bytes (Err error.NoMemory) h = tt
is_refusal bytes (Err (error.At line why)) h = refused_line bytes line why h
