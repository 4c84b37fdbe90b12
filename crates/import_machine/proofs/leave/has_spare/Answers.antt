use Rattle.std.proofs.Common.{sym, ap, ◌∙◌, ltb}
use Rattle.import_machine.proofs.Spare.{spare_owned}
use Rattle.import_machine.proofs.leave.has_spare.Goals as goal

pub returns-then-lock-thread : goal.returns-then-lock-thread
returns-then-lock-thread c =
    ap (λ k. ltb k c.in-Some.lock.count) c.count.ensures
    ∙ sym (spare_owned c.args.machine.now c.args.counts.now c.requires c.args.thread c.args.name.now c.in-Some.lock (sym c.owner.ensures ∙ c.in-Some.is) c.if-lock-thread.true)
