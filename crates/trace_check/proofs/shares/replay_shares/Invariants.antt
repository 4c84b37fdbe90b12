use Rattle.std.proofs.Common.{◌≡◌, List, length}
use Rattle.machine_events.specs.declared.event.Entry.{Entry}
use Rattle.trace_check.specs.Threads.{AreShares}
use Rattle.trace_check.proofs.Replaying.{IsUpTo}
use Rattle.trace_check.proofs.Sharing.{IsLeft}
use Rattle.trace_check.proofs.shares.replay_shares.Given as goal

abbrev pub invariant-loop-i : goal.invariant-loop-i
invariant-loop-i l = record {
  many : length l.lists.items ≡ length l.fn.lists.items;
  each : (history : List Entry) → AreShares l.order l.fn.lists.items l.counts history → IsUpTo l.fn.machine l.machine history l.i × IsLeft l.lists.items (length l.fn.lists.items) history l.i;
}
