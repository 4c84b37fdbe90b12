use Rattle.std.proofs.Common.{◌≡◌}
use Rattle.machine_shown.specs.Own.{own}
use Rattle.machine_desk.specs.Sight.{Continues}
use Rattle.trace_book.specs.Seats.{Ready}
use Rattle.trace_book.specs.Told.{seat_sight}
use Rattle.trace_book.proofs.shelf.Shelf.wait.Given as goal

abbrev pub invariant-loop : goal.invariant-loop
invariant-loop g l =
    (l.seat.table_id ≡ l.initial.seat.table_id)
    × Ready l.seat.me l.number
    × Continues (seat_sight l.initial.seat.table_id l.number l.initial.seat.me.0) (seat_sight l.initial.seat.table_id l.number l.seat.me.0)
    × (own l.number l.seat.me.0.seen ≡ own l.number l.initial.seat.me.0.seen)
