use Rattle.module_lock.specs.Table.{Table}
use Rattle.module_lock.proofs.Kept.{acyclic-given}
use Rattle.module_lock.proofs.locks.Locks.give.Goals as goal

pub invariant_of-self : goal.invariant_of-self
invariant_of-self c =
    let s : Table = record { locks = c.self.inside.locks; waits = c.self.inside.waits } in
    rw c.lower.ensures (acyclic-given s c.self.invariant.0 c.args.thread c.args.name.now, c.self.invariant.1)
