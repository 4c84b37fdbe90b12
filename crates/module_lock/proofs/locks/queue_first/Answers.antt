use Rattle.std.proofs.Common.{ap, ◌∙◌}
use Rattle.std.specs.FinMap as map
use Rattle.module_lock.proofs.Queued.{taken_back}
use Rattle.module_lock.proofs.locks.queue_first.Goals as goal

pub returns-in-Err-clause-same_waits : goal.returns-in-Err-clause-same_waits
returns-in-Err-clause-same_waits c = c.remove.ensures.after ∙ ap (λ w. map.remove w c.args.thread) c.in_ok-insert.ensures.ok ∙ taken_back c.args.waits.now c.args.thread c.args.name c.requires
