use Rattle.std.proofs.Common.{◌≡◌, ℕ, List, Ok, ap, subst}
use Rattle.trace_read.specs.Reading.{trace_in}
use Rattle.program_check.specs.Judge.{Judge}
use Rattle.program_check.specs.declared.text.Said.{Said}
use Rattle.program_check.proofs.text.judge_trace.Goals as goal

pub returns-then-trace-ne-JUDGED_FORMAT-clause-judges : goal.returns-then-trace-ne-JUDGED_FORMAT-clause-judges
returns-then-trace-ne-JUDGED_FORMAT-clause-judges g c = λ bytes read.
    Judge.other c.args.trace.format c.args.trace.entries read c.if-trace-ne-JUDGED_FORMAT.true (ap (λ (s : Said). s.entries) c.no_trace.ensures) (ap (λ (s : Said). s.verdict) c.no_trace.ensures)

pub returns-clause-judges : goal.returns-clause-judges
returns-clause-judges g c = λ bytes read.
    let here = subst (λ (n : ℕ). trace_in bytes ≡ Ok (n, c.args.trace.entries)) c.if-trace-ne-JUDGED_FORMAT.false read in
    Judge.judged c.args.trace.entries here c.len-entries.ensures c.in_ok-verdict.ensures.judges
