use Rattle.std.proofs.Common.{◌≡◌, map}
use Rattle.module_lock.specs.Table.{waiters_in}
use Rattle.module_lock.proofs.locks.waiters_among.Given as goal

abbrev pub invariant-loop-thread : goal.invariant-loop-thread
invariant-loop-thread l = l.threads ≡ waiters_in (map (λ p. (p.0.now, p.1.now)) l.yielded) l.name
