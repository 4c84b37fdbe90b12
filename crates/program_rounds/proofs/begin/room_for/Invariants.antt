use Rattle.std.proofs.Common.{◌≡◌, length}
use Rattle.drive_round.specs.Played.{AreShort}
use Rattle.program_rounds.proofs.begin.room_for.Given as goal

abbrev pub invariant-loop : goal.invariant-loop
invariant-loop l = record { short : AreShort l.results.items; many : length l.results.items ≡ l.counter }
