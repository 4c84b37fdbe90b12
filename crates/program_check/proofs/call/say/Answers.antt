use Rattle.std.proofs.Common.{◌≡◌, ◌∙◌, ℕ, List, [], sym, ap, subst}
use Rattle.machine_desk.specs.declared.outlet.Flow.TheVariants.{Open}
use Rattle.program_run.specs.Sinks.{At, at, Gets, status_by}
use Rattle.program_run.specs.Statuses.{sink_fault}
use Rattle.program_run.specs.declared.report.Report.{Report}
use Rattle.program_run.proofs.Leaving.{gets_none}
use Rattle.program_check.specs.Lines.{verdict_line}
use Rattle.program_check.proofs.call.say.Goals as goal

pub returns-clause-says : goal.returns-clause-says
returns-clause-says g c = λ old new o n e.
    let flow = c.say_line-flow.result in
    let text : List ℕ = verdict_line c.args.said.now.entries c.args.said.now.verdict in
    let first : At = at g.O.Sink c.args.out.now in
    let last : At = at g.O.Sink c.say_line-flow.new.sink in
    let gets : Gets first text last flow = c.say_line-flow.ensures.gets text c.verdict_line-line.ensures in
    record {
      out_flow = flow;
      err_flow = Open;
      out_gets = subst (λ (a : At). Gets a text new.out flow) (sym o) (subst (λ (b : At). Gets first text b flow) (sym n) gets);
      err_gets = subst (λ (b : At). Gets old.err [] b Open) (sym e) (gets_none old.err);
      is = ap (λ (r : Report). r.status) c.without_run.ensures ∙ (c.status_by.ensures ∙ ap (λ (good : ℕ). status_by good sink_fault flow Open) c.status_of.ensures);
    }
