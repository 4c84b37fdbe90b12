use Rattle.import_machine.proofs.Told.{told}
use Rattle.import_machine.proofs.machine.Machine.allowed.Goals as goal

pub allowed-requires : goal.allowed-requires
allowed-requires c = told c.self.inside.state c.self.invariant.0 c.self.inside.counts c.self.invariant.1
