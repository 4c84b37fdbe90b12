use Rattle.std.proofs.Common.{sym, subst, arith}
use Rattle.program_run.specs.Sinks.{Moment, at, moment}
use Rattle.program_run.specs.Runs.{Gives}
use Rattle.program_run.specs.Together.{MeanFrom}
use Rattle.program_run.specs.declared.report.Left.{Left}
use Rattle.program_run.proofs.Leaving.{leaves_of}
use Rattle.program_run.proofs.Lone.{has_run, ended_one, unbegun_gives}
use Rattle.program_run.proofs.alone.run_one.Goals as goal

pub run_on_book-history-requires-clause-some : goal.run_on_book-history-requires-clause-some
run_on_book-history-requires-clause-some g c = let is = c.in-Ok.ensures.programs in let one = c.requires.program in rw is (omega (arith, one))

pub returns-in-Err-clause-run : goal.returns-in-Err-clause-run
returns-in-Err-clause-run g c = λ means safe mean. unbegun_gives means _ _ _ _ c.unbegun.ensures

pub returns-clause-run : goal.returns-clause-run
returns-clause-run g c = λ means safe mean.
    let run = g.P.Program.run in
    let plan = c.args.plan.now in
    let it = c.in-Ok.it in
    let is = c.in-Ok.ensures in
    let tree = g.T.Tree.files c.args.tree.now in
    let old : Moment = moment g.T.Tree g.O.Sink g.K.Sink c.args.tree.now c.args.out.now c.args.err.now in
    let new : Moment = moment g.T.Tree g.O.Sink g.K.Sink c.run_on_book-history.new.tree c.close-flow.new.sink c.finish_run-status.new.err in
    let left = c.run_on_book-history.result in
    let ran = c.run_on_book-history.ensures in
    let status = c.finish_run-status.result in
    let means_it : MeanFrom run means 0 c.args.texts c.in-Ok.it.programs.items = rw is.programs mean in
    let ended = ended_one run means c.args.texts it.programs.items tree plan.fuel _ _ left.history left.came c.requires.text means_it ran.ran in
    let leaves = leaves_of old new _ _ plan.trace c.as_slice.result.now plan.scripts left.history status c.close-flow.result c.open-outlet.ensures.trace c.open-outlet.ensures.gets ran.kept c.close-flow.ensures.written c.close-flow.ensures.faults
    c.close-flow.ensures.flow c.as_slice.ensures (c.finish_run-status.ensures.leaves left.history ended) in
    subst (λ (r : Left). Gives means plan c.args.texts old new r) (sym c.of_run.ensures)
    (has_run means safe plan c.args.texts old new left.history status c.requires.script c.requires.text it.opening is.can_open is.rounds is.opening ran.legal leaves run it.programs.items left.came means_it ran.ran
    c.finish_run-status.ensures.short)
