use Rattle.std.proofs.Common.{List}
use Rattle.machine_events.specs.declared.event.Entry.{Entry}
use Rattle.trace_check.specs.Threads.{Tells}
use Rattle.trace_check.specs.Judge.{JudgesBy}
use Rattle.trace_check.proofs.Judging.{IsFaultOf}
use Rattle.trace_check.proofs.order.verdict_by.Given as goal

abbrev pub invariant-loop-t : goal.invariant-loop-t
invariant-loop-t g l =
    (history : List Entry) → Tells g.E.OfThread.thread l.entries history → JudgesBy (IsFaultOf history l.replayed l.follows l.t) l.replayed l.verdict
