-- No try before changed the seat.
use Rattle.std.proofs.Common.{◌≡◌, false, ap, subst}
use Rattle.trace_book.specs.Plays.{Seated, GotTurn, refused}
use Rattle.trace_book.proofs.shelf.Shelf.sleep_for_turn.Goals as goal

pub returns-then-turn-eq-FREE-clause-had : goal.returns-then-turn-eq-FREE-clause-had
returns-then-turn-eq-FREE-clause-had g c =
    subst (λ (x : Seated g.row.O.Denot). GotTurn g.O.Outlet.piece g.O.Outlet.out x c.try_often-turn.new.seat.me) c.loop.invariant.1 (c.try_often-turn.ensures.had c.if-turn-eq-FREE.true)

pub returns-then-turn-eq-FREE-clause-going : goal.returns-then-turn-eq-FREE-clause-going
returns-then-turn-eq-FREE-clause-going g c =
    subst (λ (x : Seated g.row.O.Denot). x.0.stopped ≡ false) c.loop.invariant.1 (c.try_often-turn.ensures.going c.if-turn-eq-FREE.true)

pub returns-then-turn-eq-STOPPED-clause-had : goal.returns-then-turn-eq-STOPPED-clause-had
returns-then-turn-eq-STOPPED-clause-had g c =
    subst (λ (x : Seated g.row.O.Denot). c.try_often-turn.new.seat.me ≡ refused x) c.loop.invariant.1 (c.try_often-turn.ensures.stopped c.if-turn-eq-STOPPED.true)

pub returns-then-turn-eq-STOPPED-clause-going : goal.returns-then-turn-eq-STOPPED-clause-going
returns-then-turn-eq-STOPPED-clause-going g c = ap (λ (x : Seated g.row.O.Denot). x.0.stopped) (c.try_often-turn.ensures.stopped c.if-turn-eq-STOPPED.true)
