use Rattle.std.proofs.Common.{◌≡◌, ◌∙◌, ◌∷◌, [], ℕ, length, ap, sym, subst, arith}
use Rattle.machine_spec.specs.declared.state.State.{State}
use Rattle.machine_spec.specs.Legal.{IsLegal}
use Rattle.program_run.specs.Sinks.{Moment, at, moment}
use Rattle.program_run.specs.Runs.{Gives}
use Rattle.program_run.specs.Together.{MeanFrom}
use Rattle.program_run.specs.declared.report.Left.{Left}
use Rattle.program_run.proofs.Leaving.{leaves_of}
use Rattle.program_run.proofs.Lone.{unbegun_gives}
use Rattle.program_run.proofs.Threads.{many_some, ended_some, has_run}
use Rattle.program_run.proofs.together.run_several.Goals as goal

pub run_on_book-history-requires-clause-rounds : goal.run_on_book-history-requires-clause-rounds
run_on_book-history-requires-clause-rounds g c = λ κs lives.
    let is = c.in-Ok.ensures.programs in
    rw is (c.in-Ok.ensures.rounds ∙ ap (λ (n : ℕ). n ∷ []) (sym c.requires.programs))

pub run_on_book-history-requires-clause-some : goal.run_on_book-history-requires-clause-some
run_on_book-history-requires-clause-some g c = λ κs lives.
    let is = c.in-Ok.ensures.programs in
    let many = c.requires.programs in
    let some = c.requires.some in
    let few = c.requires.few in
    rw is (omega (arith, many, some), omega (arith, many, few))

pub finish_some-status-requires : goal.finish_some-status-requires
finish_some-status-requires g c =
    let is = c.in-Ok.ensures.programs in
    let many = c.requires.programs ∙ ap length (sym c.as_slice.ensures) in
    let here : length c.in-Ok.it.programs.items ≡ length c.as_slice.result.now = rw is many in
    many_some (λ v. v.items) c.run_on_book-history.result.results (g.T.Tree.files c.args.tree.now) g.P.Program.run c.in-Ok.it.programs.items c.args.plan.now.fuel _ _ c.run_on_book-history.result.history (length c.as_slice.result.now)
    here c.run_on_book-history.ensures.ran

pub returns-in-Err-clause-run : goal.returns-in-Err-clause-run
returns-in-Err-clause-run g c = λ means safe mean. unbegun_gives means _ _ _ _ c.unbegun.ensures

pub returns-clause-run : goal.returns-clause-run
returns-clause-run g c = λ means safe mean.
    let run = g.P.Program.run in
    let plan = c.args.plan.now in
    let it = c.in-Ok.it in
    let is = c.in-Ok.ensures in
    let tree = g.T.Tree.files c.args.tree.now in
    let old : Moment = moment g.T.Tree g.O.Sink g.K.Sink c.args.tree.now c.args.out.now c.args.err.now in
    let new : Moment = moment g.T.Tree g.O.Sink g.K.Sink c.run_on_book-history.new.tree c.close-flow.new.sink c.finish_some-status.new.err in
    let left = c.run_on_book-history.result in
    let ran = c.run_on_book-history.ensures in
    let status = c.finish_some-status.result in
    let some = c.requires.some in
    let many = c.requires.texts in
    let means_it : MeanFrom run means 0 c.args.texts c.in-Ok.it.programs.items = rw is.programs mean in
    let ended = ended_some (λ v. v.items) left.results tree _ plan.fuel _ _ left.history ran.ran in
    let leaves = leaves_of old new _ _ plan.trace c.as_slice.result.now plan.scripts left.history status c.close-flow.result c.open-outlet.ensures.trace c.open-outlet.ensures.gets ran.kept c.close-flow.ensures.written c.close-flow.ensures.faults
    c.close-flow.ensures.flow c.as_slice.ensures (c.finish_some-status.ensures.leaves left.history ended) in
    subst (λ (r : Left). Gives means plan c.args.texts old new r) (sym c.of_run.ensures)
    (has_run means plan c.args.texts old new left.history status (omega (arith, some, many)) many (subst (λ (s : State). IsLegal s left.history) is.opening ran.legal) leaves run it.programs.items (λ v. v.items) left.results means_it ran.ran ran.unrun
    c.finish_some-status.ensures.short)
