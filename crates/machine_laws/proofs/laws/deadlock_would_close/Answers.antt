use Rattle.machine_laws.specs.Begun.{first}
use Rattle.machine_spec.specs.Legal.{replay}
use Rattle.machine_laws.proofs.Deadlocks.{asked_deadlock, taken_deadlock, reloaded_deadlock, roused_deadlock}
use Rattle.machine_laws.proofs.laws.deadlock_would_close.Goals as goal

pub returns-clause-asked : goal.returns-clause-asked
returns-clause-asked c b history t n is = asked_deadlock (replay (first b) history) t n is

pub returns-clause-taken : goal.returns-clause-taken
returns-clause-taken c b history t n is = taken_deadlock (replay (first b) history) t n is

pub returns-clause-reloaded : goal.returns-clause-reloaded
returns-clause-reloaded c b history t mid spec text is = reloaded_deadlock (replay (first b) history) t mid spec text is

pub returns-clause-roused : goal.returns-clause-roused
returns-clause-roused c b history t mid o is there = roused_deadlock (replay (first b) history) t mid o is there
