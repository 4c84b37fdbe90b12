use Rattle.py_run.proofs.Starting.{script_starts}
use Rattle.py_run.proofs.start.start_script.Goals as goal

pub returns-in-Ok : goal.returns-in-Ok
returns-in-Ok c = script_starts c.args.script c.in-Ok.name c.args.text c.in-Ok.ensures
