use Rattle.machine_laws.specs.Begun.{first}
use Rattle.machine_spec.specs.Legal.{replay}
use Rattle.machine_laws.proofs.Deadlocks.{roused_cycle}
use Rattle.machine_laws.proofs.laws.roused_cycle_would_close.Goals as goal

pub returns : goal.returns
returns c b history t mid m o is there = roused_cycle (replay (first b) history) t mid m o is there
