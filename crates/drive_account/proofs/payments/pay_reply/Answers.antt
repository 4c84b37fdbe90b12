use Rattle.std.proofs.Common.{subst}
use Rattle.meaning_runs.specs.Runs.{Run}
use Rattle.drive_account.specs.At.{At}
use Rattle.drive_account.proofs.Paying.{wait_free, owed}
use Rattle.drive_account.proofs.payments.pay_reply.Goals as goal

pub returns-in-Wait : goal.returns-in-Wait
returns-in-Wait c = λ files whole fuel mine next a.
    subst (λ (run : Run). At files whole fuel mine c.args.budget.now run) (wait_free c.args.reply.now _ next c.in-Wait.is) a

pub returns-in_default : goal.returns-in_default
returns-in_default c = λ files whole fuel mine next a.
    c.pay.ensures.moves files whole fuel mine next (owed c.args.budget.now c.args.reply.now c.reply_units.result next c.in_default.not-Wait c.reply_units.ensures a)
