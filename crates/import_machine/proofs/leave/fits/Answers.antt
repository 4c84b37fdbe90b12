use Rattle.std.proofs.Common.{sym, ap, ◌∙◌}
use Rattle.machine_spec.specs.Allowed.{fits}
use Rattle.import_machine.proofs.leave.fits.Goals as goal

pub returns-in-AddLazy : goal.returns-in-AddLazy
returns-in-AddLazy c = c.can_add_lazy.ensures ∙ sym (ap (fits c.args.machine.now c.args.thread) c.in-AddLazy.is)
