use Rattle.bundle_hook.proofs.Ascending.{lent}
use Rattle.bundle_hook.proofs.indexes.index_at.Goals as goal

pub returns-in-Some-clause-ascend : goal.returns-in-Some-clause-ascend
returns-in-Some-clause-ascend c = lent c.as_ref.result c.in-Some.it.now.index c.as_ref.ensures.value c.in-Some.it.now.ascend
