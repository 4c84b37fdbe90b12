use Rattle.std.proofs.Common.{rules}
use Rattle.program_run.proofs.Opening.{script_at, script_not}
use Rattle.program_run.proofs.open.open_script.Goals as goal

pub returns-in-Some-clause-told : goal.returns-in-Some-clause-told
returns-in-Some-clause-told g c = script_at _ _ _ _ (search rules) c.open_path.ensures.told

pub returns-in-None-clause-told : goal.returns-in-None-clause-told
returns-in-None-clause-told g c = script_not _ _ (search rules)
