use Rattle.machine_laws.proofs.Falling.{exactly, by_one}
use Rattle.machine_laws.proofs.lock_laws.a_count_falls_exactly_where_its_lock_is_given.Goals as goal

pub returns-clause-exactly : goal.returns-clause-exactly
returns-clause-exactly c = exactly

pub returns-clause-by_one : goal.returns-clause-by_one
returns-clause-by_one c = by_one
