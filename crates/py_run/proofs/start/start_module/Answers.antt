use Rattle.std.proofs.Common.{◌∙◌}
use Rattle.py_run.proofs.Starting.{module_starts}
use Rattle.py_run.proofs.start.start_module.Goals as goal

pub returns : goal.returns
returns c = module_starts c.args.script c.args.name c.in_ok-boxed.boxed (c.in_ok-boxed.ensures ∙ c.start.ensures)
