use Rattle.std.proofs.Common.{sym, subst}
use Rattle.program_run.specs.Answers.{left_of}
use Rattle.program_run.specs.Sinks.{at}
use Rattle.program_run.specs.declared.report.Report.{Report}
use Rattle.program_gen.specs.MadeRuns.{MadeGives, workload_of, sinks}
use Rattle.program_gen.proofs.Never.{never_tree_fault}
use Rattle.program_gen.proofs.Quieting.{made}
use Rattle.program_gen.proofs.call.call_made.Goals as goal

pub returns-clause-run : goal.returns-clause-run
returns-clause-run g c =
    let means = g.S.Scripts.means in
    let old = sinks (at g.K.Sink c.args.out.now) (at g.K.Sink c.args.err.now) in
    let new = sinks (at g.K.Sink c.with_line-told.new.out) (at g.K.Sink c.run_quiet-ran.new.err) in
    subst (λ (r : Report). MadeGives means (workload_of c.args.seed c.args.modules c.args.scripts) old new (left_of r)) (sym c.with_plan.ensures)
    (made means c.args.seed c.args.modules c.args.scripts (at g.K.Sink c.args.out.now) (at g.K.Sink c.with_line-told.new.out)
    (at g.K.Sink c.args.err.now) (at g.K.Sink c.run_quiet-ran.new.err) c.run_quiet-ran.result c.with_line-told.result
    c.run_quiet-ran.ensures.run c.with_line-told.ensures.history c.with_line-told.ensures.told c.with_line-told.ensures.unbegun)

pub returns-clause-no_file_fault : goal.returns-clause-no_file_fault
returns-clause-no_file_fault g c =
    never_tree_fault g.S.Scripts.means (workload_of c.args.seed c.args.modules c.args.scripts) (sinks (at g.K.Sink c.args.out.now) (at g.K.Sink c.args.err.now))
    (sinks (at g.K.Sink c.with_line-told.new.out) (at g.K.Sink c.run_quiet-ran.new.err)) c.with_plan.result.history c.with_plan.result.status (returns-clause-run g c)
