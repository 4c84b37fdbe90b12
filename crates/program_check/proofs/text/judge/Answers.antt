use Rattle.std.proofs.Common.{◌≡◌, ap, subst}
use Rattle.trace_check.specs.declared.answers.Verdict.TheVariants as verdicts
use Rattle.trace_check.specs.declared.answers.Why.TheVariants as whys
use Rattle.trace_read.specs.Reading.{trace_in, Fails}
use Rattle.trace_read.specs.declared.trace.TraceError.{TraceError}
use Rattle.program_check.specs.Judge.{Judge}
use Rattle.program_check.specs.declared.text.Said.{Said}
use Rattle.program_check.proofs.text.judge.Goals as goal

pub returns-in-Ok-clause-judges : goal.returns-in-Ok-clause-judges
returns-in-Ok-clause-judges g c = c.judge_trace.ensures.judges c.args.bytes c.in-Ok.ensures

pub returns-in-Err-At-clause-judges : goal.returns-in-Err-At-clause-judges
returns-in-Err-At-clause-judges g c =
    let read = subst (λ (e : TraceError). Fails e (trace_in c.args.bytes)) c.in-Err-At.field-0-is c.in-Err-At.ensures in
    let told : c.no_trace.result.verdict ≡ verdicts.No c.in-Err-At.line whys.Text = cc (ap (λ (s : Said). s.verdict) c.no_trace.ensures, c.in-Err-At.line-is) in
    Judge.refused c.in-Err-At.line c.in-Err-At.cause read (ap (λ (s : Said). s.entries) c.no_trace.ensures) told
