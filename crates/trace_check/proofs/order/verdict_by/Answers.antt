use Rattle.std.proofs.Common.{◌≡◌, ◌+◌, length, subst, sym, ap, ◌∙◌, Some, arith}
use Rattle.std.specs.Prelude.{slice_get}
use Rattle.std.proofs.lemmas.Option.{slice_get-get_or}
use Rattle.machine_events.specs.declared.event.Follow.{Follow}
use Rattle.machine_events.specs.declared.event.Follow.TheVariants as ways
use Rattle.trace_check.specs.declared.answers.Verdict.{Verdict}
use Rattle.trace_check.specs.Judge.{JudgesBy}
use Rattle.trace_check.proofs.Judging.{IsFaultOf, judges_none, judges_all, judges_parts, judges_follows}
use Rattle.trace_check.proofs.order.verdict_by.Goals as goal
use Rattle.trace_check.proofs.order.verdict_by.Goals.{in-Parts, in_default}

pub loop-t-init : goal.loop-t-init
loop-t-init g c = λ h same.
    let r = c.args.replayed.now in
    let fs = c.args.follows.now in
    subst (λ (v : Verdict). JudgesBy (IsFaultOf h r fs 0) r v) (sym c.verdict_of_replay-verdict.ensures) (judges_none h r fs)

pub loop-t-preserved : goal.loop-t-preserved
loop-t-preserved g c = λ h same.
    let r = c.args.replayed.now in
    let fs = c.args.follows.now in
    let t = c.loop-t.t in
    let here = slice_get-get_or fs t ways.Yes c.loop-t-test.true in
    elim c.match-follows-t.branch [
      | in-Parts w ↦
          let there : slice_get fs t ≡ Some (ways.Parts w.in-Parts.at) = here ∙ ap (λ (f : Follow). Some f) w.in-Parts.is in
          subst (λ (v : Verdict). JudgesBy (IsFaultOf h r fs (t + 1)) r v) (sym (w.verdict-is ∙ w.first_of-verdict.ensures))
          (judges_parts h r fs t w.in-Parts.at c.loop-t.verdict w.part-line.result.0 w.part-line.result.1 there (c.loop-t.invariant h same) (w.part-line.ensures h same))
      | in_default w ↦
          let there : slice_get fs t ≡ Some ways.Yes = here ∙ ap (λ (f : Follow). Some f) w.in_default.is in
          subst (λ (v : Verdict). JudgesBy (IsFaultOf h r fs (t + 1)) r v) (sym w.verdict-is)
          (judges_follows h r fs t c.loop-t.verdict there (c.loop-t.invariant h same))
    ]

pub returns : goal.returns
returns g c = λ h same.
    let all : c.loop-t.t ≡ length c.args.follows.now = omega (arith, c.loop-t-test.false, c.loop-t.auto.t-end) in
    judges_all h c.args.replayed.now c.args.follows.now c.loop-t.verdict
    (subst (λ n. JudgesBy (IsFaultOf h c.args.replayed.now c.args.follows.now n) c.args.replayed.now c.loop-t.verdict) all (c.loop-t.invariant h same))
