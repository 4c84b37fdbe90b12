use Rattle.std.proofs.Common.{refl, sym, subst}
use Rattle.program_run.specs.Sinks.{at}
use Rattle.program_commands.specs.Telling.{Ends, fault_line}
use Rattle.program_commands.specs.declared.telling.Told.{Told}
use Rattle.program_commands.proofs.report.end_report.Goals as goal

pub returns-in-All-clause-ends : goal.returns-in-All-clause-ends
returns-in-All-clause-ends g c =
    subst (λ (t : Told). Ends t (at g.K.Sink c.args.err.now) (at g.K.Sink c.args.err.now) c.found_status.result) (sym c.in-All.is) (refl, c.found_status.ensures)

pub returns-in-Unread-clause-ends : goal.returns-in-Unread-clause-ends
returns-in-Unread-clause-ends g c =
    subst (λ (t : Told). Ends t (at g.K.Sink c.args.err.now) (at g.K.Sink c.say_line.new.sink) c.unread_status.result) (sym c.in-Unread.is)
    (c.say_line.result, c.say_line.ensures.gets fault_line c.joined-line.ensures, c.unread_status.ensures)

pub returns-in-Cut-clause-ends : goal.returns-in-Cut-clause-ends
returns-in-Cut-clause-ends g c = subst (λ (t : Told). Ends t (at g.K.Sink c.args.err.now) (at g.K.Sink c.args.err.now) 5) (sym c.in-Cut.is) (refl, refl)

pub returns-in-Short-clause-ends : goal.returns-in-Short-clause-ends
returns-in-Short-clause-ends g c = subst (λ (t : Told). Ends t (at g.K.Sink c.args.err.now) (at g.K.Sink c.args.err.now) 6) (sym c.in-Short.is) (refl, refl)
