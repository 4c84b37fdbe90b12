use Rattle.drive_account.proofs.Searching.{safe_paid}
use Rattle.drive_account.proofs.search.listed.Goals as goal

pub returns-then-not-pay_reply-clause-moves : goal.returns-then-not-pay_reply-clause-moves
returns-then-not-pay_reply-clause-moves c = λ files go k whole fuel mine a. c.if-not-pay_reply.ensures files whole fuel mine _ a

pub returns-clause-moves : goal.returns-clause-moves
returns-clause-moves c = λ files go k whole fuel mine a. rw c.probe_of-probe.ensures (c.if-not-pay_reply.ensures files whole fuel mine _ a)

pub returns-clause-safe : goal.returns-clause-safe
returns-clause-safe c = λ s go k h. rw c.probe_of-probe.ensures (safe_paid s c.args.reply _ h)
