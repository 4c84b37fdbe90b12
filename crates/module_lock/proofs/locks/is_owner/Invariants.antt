use Rattle.std.proofs.Common.{◌≡◌, false, map}
use Rattle.std.specs.Prelude.{◌==◌}
use Rattle.std.specs.List.{list_any}
use Rattle.module_lock.specs.declared.locks.Lock.{Lock}
use Rattle.module_lock.proofs.locks.is_owner.Given as goal

abbrev pub invariant-loop-lock : goal.invariant-loop-lock
invariant-loop-lock l = list_any (λ (lock : Lock). lock.owner == l.thread) (map (λ lock. lock.now) l.yielded) ≡ false
