use Rattle.std.proofs.Common.{◌≡◌, ◌+◌, take}
use Rattle.trace_check.specs.Threads.{turns}
use Rattle.trace_check.proofs.order.place_of.Given as goal

abbrev pub invariant-loop-i : goal.invariant-loop-i
invariant-loop-i g l = turns g.E.OfThread.thread l.t (take l.i l.entries) + l.left ≡ l.at
