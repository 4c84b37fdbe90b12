-- No try before changed the seat.
use Rattle.std.proofs.Common.{◌≡◌, false, subst}
use Rattle.trace_book.specs.Plays.{Seated, GotTurn, refused}
use Rattle.trace_book.proofs.shelf.Shelf.try_often.Goals as goal

pub returns-then-turn-ne-HELD-clause-had : goal.returns-then-turn-ne-HELD-clause-had
returns-then-turn-ne-HELD-clause-had g c free =
    subst (λ (x : Seated g.row.O.Denot). GotTurn g.O.Outlet.piece g.O.Outlet.out x c.try_take-turn.new.seat.me) c.loop.invariant.1 (c.try_take-turn.ensures.had free)

pub returns-then-turn-ne-HELD-clause-going : goal.returns-then-turn-ne-HELD-clause-going
returns-then-turn-ne-HELD-clause-going g c free =
    subst (λ (x : Seated g.row.O.Denot). x.0.stopped ≡ false) c.loop.invariant.1 (c.try_take-turn.ensures.going free)

pub returns-then-turn-ne-HELD-clause-stopped : goal.returns-then-turn-ne-HELD-clause-stopped
returns-then-turn-ne-HELD-clause-stopped g c two =
    subst (λ (x : Seated g.row.O.Denot). c.try_take-turn.new.seat.me ≡ refused x) c.loop.invariant.1 (c.try_take-turn.ensures.stopped two)
