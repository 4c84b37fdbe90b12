-- Refused lines.
use Rattle.std.proofs.Common.{◌≡◌, ◌∙◌, sym, subst, ℕ, Result, Err}
use Rattle.machine_events.specs.declared.event.Entry.{Entry}
use Rattle.trace_fields.specs.declared.refusal.Cause.{Cause}
use Rattle.trace_fields.specs.declared.refusal.Refusal.{Refusal}
use Rattle.trace_fields.specs.declared.refusal.Refusal.TheVariants as refusal
use Rattle.trace_fields.specs.Reading as fields
use Rattle.trace_read.specs.declared.trace.TraceError.{TraceError}
use Rattle.trace_read.specs.declared.trace.TraceError.TheVariants as error
use Rattle.trace_read.specs.Reading.{Read, Fails, Told}

pub refused_is : {Y : Type 0} (line : ℕ) (r : Refusal) (e : TraceError) (one : Result Entry Cause) (read : Read Y) → fields.Fails r one → Told line r e → ((why : Cause) → one ≡ Err why → read ≡ Err (line, why)) → Fails e read
refused_is line refusal.NoMemory e one read f t go = subst (λ x. Fails x read) (sym t) tt
refused_is line (refusal.Cause why) error.NoMemory one read f t go = tt
refused_is line (refusal.Cause why) (error.At at told) one read f t go = go why f ∙ (λ k. Err (sym t.0 k, sym t.1 k))
