use Rattle.std.proofs.Common.{◌≡◌, length}
use Rattle.rows_machine.proofs.schedules.empty_texts.Given as goal

abbrev pub invariant-loop : goal.invariant-loop
invariant-loop l = length l.texts ≡ l.counter
