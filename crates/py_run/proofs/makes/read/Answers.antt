use Rattle.py_run.proofs.Making.{nothing_made}
use Rattle.py_run.proofs.makes.read.Goals as goal

pub call-requires : goal.call-requires
call-requires g c = record { stood = rw c.in-Ok.ensures c.requires.stood }

pub returns : goal.returns
returns g c = rw c.in-Ok.ensures at c.call.ensures

pub returns-in-Err : goal.returns-in-Err
returns-in-Err g c = nothing_made _ _ _ _ _
