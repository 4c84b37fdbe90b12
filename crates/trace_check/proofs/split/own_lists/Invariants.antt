use Rattle.trace_check.proofs.Splitting.{IsSplit}
use Rattle.trace_check.proofs.split.own_lists.Given as goal

abbrev pub invariant-loop-t : goal.invariant-loop-t
invariant-loop-t l = IsSplit l.lists.items l.t l.rest.items l.fn.entries
