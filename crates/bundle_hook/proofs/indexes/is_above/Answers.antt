use Rattle.std.proofs.Common.{sym, length, take}
use Rattle.tree_overlay.proofs.FateLemmas.{same_is}
use Rattle.bundle_hook.proofs.indexes.is_above.Goals as goal

pub returns-then-len-clause-front : goal.returns-then-len-clause-front
returns-then-len-clause-front c = λ yes. sym (same_is (take (length c.args.it.now.path) c.args.path.now) c.args.it.now.path (let v = c.starts_with.ensures.value in cc))
