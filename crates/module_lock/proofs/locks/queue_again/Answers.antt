use Rattle.module_lock.proofs.Queued.{restored}
use Rattle.module_lock.proofs.locks.queue_again.Goals as goal

pub returns-in-Err-clause-same_waits : goal.returns-in-Err-clause-same_waits
returns-in-Err-clause-same_waits c =
    restored c.insert-in-Err.result c.args.waits.now c.insert.new.self c.insert-in-Err.new.self c.args.thread c.args.name c.args.prior
    c.insert-in-Err.ensures.ok c.insert-in-Err.ensures.absent c.in_ok-insert.ensures.ok c.requires
