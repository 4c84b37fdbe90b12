use Rattle.std.proofs.Common.{◌≡◌, take}
use Rattle.trace_check.specs.Threads.{threads_of}
use Rattle.trace_check.proofs.order.threads_of.Given as goal

abbrev pub invariant-loop-entry : goal.invariant-loop-entry
invariant-loop-entry l = l.threads ≡ threads_of (take l.entry-index l.entries)
