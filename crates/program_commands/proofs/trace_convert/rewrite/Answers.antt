use Rattle.std.proofs.Common.{◌∙◌, List, [], ap, sym, subst}
use Rattle.machine_events.specs.declared.event.Entry.{Entry}
use Rattle.machine_desk.specs.declared.outlet.Flow.TheVariants.{Open}
use Rattle.program_run.specs.Sinks.{At, at, Gets}
use Rattle.program_run.specs.declared.report.Report.{Report}
use Rattle.program_run.proofs.Leaving.{gets_none}
use Rattle.trace_read.specs.Refusing.{IsRefusal}
use Rattle.trace_read.specs.declared.trace.TraceError.{TraceError}
use Rattle.trace_text.specs.Trace.{trace}
use Rattle.program_commands.specs.Converting.{ConvertsText}
use Rattle.program_commands.proofs.trace_convert.rewrite.Goals as goal

pub returns-in-Ok-clause-answers : goal.returns-in-Ok-clause-answers
returns-in-Ok-clause-answers g c = λ old new o n e f.
    let entries : List Entry = c.in-Ok.trace.entries in
    let flow = c.say_trace-flow.result in
    let first : At = at g.O.Sink c.args.out.now in
    let last : At = at g.O.Sink c.say_trace-flow.new.sink in
    let gets : Gets first (trace entries) last flow = subst (λ (es : List Entry). Gets first (trace es) last flow) c.as_slice.ensures c.say_trace-flow.ensures.gets in
    ConvertsText.converted c.in-Ok.trace.format entries c.in-Ok.ensures.found (record {
      out_flow = flow;
      err_flow = Open;
      out_gets = subst (λ (a : At). Gets a (trace entries) new.out flow) (sym o) (subst (λ (b : At). Gets first (trace entries) b flow) (sym n) gets);
      err_gets = subst (λ (b : At). Gets old.err [] b Open) (e ∙ sym f) (gets_none old.err);
      is = ap (λ (r : Report). r.status) c.without_run.ensures ∙ c.status_by.ensures;
    })

pub returns-in-Err-At-clause-answers : goal.returns-in-Err-At-clause-answers
returns-in-Err-At-clause-answers g c = λ old new o n e f.
    let refused = subst (λ (x : TraceError). IsRefusal c.args.bytes.now x) c.in-Err-At.field-0-is c.in-Err-At.ensures.refused in
    ConvertsText.refused c.in-Err-At.line c.in-Err-At.cause refused (c.tell.ensures.leaves _ old new c.refusal_line-refusal.ensures (n ∙ sym o) e f)
