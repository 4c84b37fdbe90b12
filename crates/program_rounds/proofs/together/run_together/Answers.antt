use Rattle.std.proofs.Common.{◌≡◌, ◌∙◌, ℕ, List, length, ap, sym, subst}
use Rattle.machine_spec.specs.declared.state.State.{State}
use Rattle.machine_spec.specs.Legal.{IsLegal}
use Rattle.drive_round.specs.Ran.{Counts, counted}
use Rattle.program_run.specs.Sinks.{Moment, at, moment}
use Rattle.program_run.specs.declared.report.Left.{Left}
use Rattle.program_run.proofs.Leaving.{leaves_of}
use Rattle.program_rounds.specs.Course.{HasLeft}
use Rattle.program_rounds.specs.Rounds.{opening_in, scripts_of}
use Rattle.program_rounds.specs.Runs.{Gives}
use Rattle.program_rounds.proofs.Several.{ended_left, has_run_together, many_left, many_names}
use Rattle.program_rounds.proofs.together.run_together.Goals as goal

pub ground_for-requires-clause-texts : goal.ground_for-requires-clause-texts
ground_for-requires-clause-texts g c = ap length c.in-Ok-copy.ensures ∙ c.requires.texts

pub run_on_ground-history-requires-clause-texts : goal.run_on_ground-history-requires-clause-texts
run_on_ground-history-requires-clause-texts g c κs within = ap length c.as_slice.ensures ∙ c.requires.texts

pub finish_some-status-requires : goal.finish_some-status-requires
finish_some-status-requires g c =
    let left = c.run_on_ground-history in
    many_names (λ v. v.items) left.result.results (length (scripts_of c.args.rounds.now)) (length c.as_slice-2.result.now) (ap length (c.as_slice-2.ensures ∙ c.in-Ok.ensures))
    (many_left g.S.Scripts.means (g.T.Tree.files c.args.tree.now) c.args.plan.now.fuel c.args.rounds.now _ _ _ left.result.history left.result.results (λ v. v.items) left.ensures.left)

pub returns-clause-run : goal.returns-clause-run
returns-clause-run g c =
    let means = g.S.Scripts.means in
    let plan = c.args.plan.now in
    let rounds = c.args.rounds.now in
    let is = c.in-Ok-ground_for.ensures in
    let old : Moment = moment g.T.Tree g.O.Sink g.K.Sink c.args.tree.now c.args.out.now c.args.err.now in
    let new : Moment = moment g.T.Tree g.O.Sink g.K.Sink c.run_on_ground-history.new.tree c.close-flow.new.sink c.finish_some-status.new.err in
    let left = c.run_on_ground-history.result in
    let ran = c.run_on_ground-history.ensures in
    let status = c.finish_some-status.result in
    let texts_are = c.as_slice.ensures in
    let before : Counts = counted g.T.Tree.faults g.T.Tree.lists c.args.tree.now in
    let after : Counts = counted g.T.Tree.faults g.T.Tree.lists c.run_on_ground-history.new.tree in
    let mine = subst (λ (ts : List (List ℕ)). HasLeft means (g.T.Tree.files c.args.tree.now) plan.fuel rounds ts before after left.history left.results (λ v. v.items)) texts_are ran.left in
    let ended = ended_left means (g.T.Tree.files c.args.tree.now) plan.fuel rounds c.args.texts before after left.history left.results (λ v. v.items) mine in
    let leaves = leaves_of old new _ _ plan.trace c.as_slice-2.result.now (scripts_of rounds) left.history status c.close-flow.result c.open-outlet.ensures.trace c.open-outlet.ensures.gets ran.kept c.close-flow.ensures.written c.close-flow.ensures.faults
    c.close-flow.ensures.flow (c.as_slice-2.ensures ∙ c.in-Ok.ensures) (c.finish_some-status.ensures.leaves left.history ended) in
    subst (λ (r : Left). Gives means plan rounds c.args.texts old new r) (sym c.of_run.ensures)
    (has_run_together means plan rounds c.args.texts old new left.history status left.results (λ v. v.items) c.requires.several (subst (λ (s : State). IsLegal s left.history) (is.opening ∙ ap (opening_in plan rounds) c.in-Ok-copy.ensures) ran.legal) mine c.finish_some-status.ensures.short leaves)
