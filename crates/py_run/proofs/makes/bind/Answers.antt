use Rattle.py_run.proofs.makes.bind.Goals as goal

pub call-requires : goal.call-requires
call-requires g c = record { stood = rw c.requires.global at c.requires.stood }

pub returns : goal.returns
returns g c = rw c.requires.global c.call.ensures
