use Rattle.std.proofs.Common.{rules}
use Rattle.program_run.proofs.Leaving.{part_by}
use Rattle.program_run.proofs.outlet.say.Goals as goal

pub returns-in-Err-Failed-clause-gets : goal.returns-in-Err-Failed-clause-gets
returns-in-Err-Failed-clause-gets g c = (part_by _ _ _ c.in-Err-Failed.ensures.err, search rules)

pub returns-in-Err-NoMemory-clause-gets : goal.returns-in-Err-NoMemory-clause-gets
returns-in-Err-NoMemory-clause-gets g c = (part_by _ _ _ c.in-Err-NoMemory.ensures.err, search rules)
