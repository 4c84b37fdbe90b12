use Rattle.std.proofs.Common.{refl, ap, sym, ◌∙◌}
use Rattle.std.proofs.lemmas.Result.{IfOk-weaker}
use Rattle.py_value.specs.declared.value.Value.{Value}
use Rattle.meaning_state.specs.declared.flow.Flow.TheVariants.{Went}
use Rattle.py_frames.specs.declared.want.Want.TheVariants as want
use Rattle.drive_straight.specs.declared.execution.Execution.{Execution}
use Rattle.py_run.specs.Turns.{remains, replied_at}
use Rattle.py_run.proofs.Leading.{followed, stepped_as}
use Rattle.py_run.proofs.Stepping.{stepped_out}
use Rattle.py_run.proofs.working.follow.Goals as goal

pub returns-then-not-pay_reply-clause-turned : goal.returns-then-not-pay_reply-clause-turned
returns-then-not-pay_reply-clause-turned c =
    stepped_out c.args.execution.now.budget _ _ (λ files whole fuel mine a. c.if-not-pay_reply.ensures files whole fuel mine _ a)

pub returns-then-is_plain-clause-turned : goal.returns-then-is_plain-clause-turned
returns-then-is_plain-clause-turned c =
    let old = c.args.execution.now in
    let paid : Execution = record { budget = c.pay_reply.new.budget; held = old.held; thread = old.thread; work = old.work } in
    followed old c.go_straight.new.execution paid.budget c.args.on c.args.on c.args.reply c.args.reply c.go_straight.result refl refl c.if-not-pay_reply.ensures
    (IfOk-weaker c.go_straight.result _ _ (λ t step. stepped_as paid.budget c.go_straight.new.execution t (replied_at c.args.on c.args.reply old) (remains paid (want.Go (Went c.brought.result)))
    (c.if-is_plain.ensures refl paid ∙ ap (λ (v : Value). remains paid (want.Go (Went v))) (sym c.brought.ensures)) step) c.go_straight.ensures.turned)

pub returns-clause-turned : goal.returns-clause-turned
returns-clause-turned c =
    let old = c.args.execution.now in
    followed old c.reply_to.new.execution c.pay_reply.new.budget c.args.on c.args.on c.args.reply c.args.reply c.reply_to.result refl refl c.if-not-pay_reply.ensures c.reply_to.ensures.turned
