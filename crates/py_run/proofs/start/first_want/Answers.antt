use Rattle.py_run.proofs.start.first_want.Goals as goal

pub returns-in-Script : goal.returns-in-Script
returns-in-Script c = rw c.in-Script.is c.start_script.ensures

pub returns-in-Module : goal.returns-in-Module
returns-in-Module c = rw c.in-Module.is c.start_module.ensures
