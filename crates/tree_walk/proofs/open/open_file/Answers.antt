use Rattle.std.proofs.Common.{rules}
use Rattle.tree_walk.proofs.Naming.{file_at, file_not}
use Rattle.tree_walk.proofs.open.open_file.Goals as goal

pub returns-in-Some-clause-told : goal.returns-in-Some-clause-told
returns-in-Some-clause-told g c = file_at _ _ _ _ _ (search rules) c.read_at.ensures.told

pub returns-in-None-clause-told : goal.returns-in-None-clause-told
returns-in-None-clause-told g c = file_not _ _ _ (search rules)
