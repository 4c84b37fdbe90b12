use Rattle.py_run.proofs.Making.{nothing_made}
use Rattle.py_run.proofs.Turning.{member_by}
use Rattle.py_run.proofs.makes.read_member.Goals as goal

pub call-requires : goal.call-requires
call-requires g c = record { stood = rw (member_by c.args.execution.now c.args.«module» c.args.name c.in-Ok.copied c.mid.result c.in-Ok.ensures c.mid.ensures) at c.requires.stood }

pub returns : goal.returns
returns g c = rw (member_by c.args.execution.now c.args.«module» c.args.name c.in-Ok.copied c.mid.result c.in-Ok.ensures c.mid.ensures) c.call.ensures

pub returns-in-Err : goal.returns-in-Err
returns-in-Err g c = nothing_made _ _ _ _ _
