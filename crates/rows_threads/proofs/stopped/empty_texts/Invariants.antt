use Rattle.std.proofs.Common.{◌≡◌, length}
use Rattle.rows_threads.proofs.stopped.empty_texts.Given as goal

abbrev pub invariant-loop : goal.invariant-loop
invariant-loop l = length l.all ≡ l.counter
