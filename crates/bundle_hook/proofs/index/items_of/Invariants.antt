use Rattle.bundle_hook.proofs.Indexed.{Placing}
use Rattle.bundle_hook.proofs.index.items_of.Given as goal

abbrev pub invariant-loop-entry : goal.invariant-loop-entry
invariant-loop-entry l = Placing l.head l.size l.left l.entry-index l.items l.entries
