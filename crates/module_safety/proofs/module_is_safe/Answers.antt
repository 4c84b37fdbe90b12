use Rattle.module_safety.proofs.Programs.{module_safe}
use Rattle.module_safety.proofs.module_is_safe.Goals as goal

pub returns : goal.returns
returns c = module_safe
