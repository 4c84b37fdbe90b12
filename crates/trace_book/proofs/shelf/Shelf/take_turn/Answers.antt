-- The tries before the sleep did not change the seat.
use Rattle.std.proofs.Common.{◌≡◌, false, ap, subst}
use Rattle.std.specs.Prelude.{MatchBool}
use Rattle.trace_book.specs.Plays.{Seated, GotTurn, refused}
use Rattle.trace_book.specs.Seats.{Stopped}
use Rattle.trace_book.proofs.shelf.Shelf.take_turn.Goals as goal

pub returns-then-turn-eq-FREE-clause-had : goal.returns-then-turn-eq-FREE-clause-had
returns-then-turn-eq-FREE-clause-had g c = c.try_often-turn.ensures.had c.if-turn-eq-FREE.true

pub returns-then-turn-eq-FREE-clause-going : goal.returns-then-turn-eq-FREE-clause-going
returns-then-turn-eq-FREE-clause-going g c = c.try_often-turn.ensures.going c.if-turn-eq-FREE.true

pub returns-then-turn-eq-STOPPED-clause-had : goal.returns-then-turn-eq-STOPPED-clause-had
returns-then-turn-eq-STOPPED-clause-had g c = c.try_often-turn.ensures.stopped c.if-turn-eq-STOPPED.true

pub returns-then-turn-eq-STOPPED-clause-going : goal.returns-then-turn-eq-STOPPED-clause-going
returns-then-turn-eq-STOPPED-clause-going g c = ap (λ (x : Seated g.row.O.Denot). x.0.stopped) (c.try_often-turn.ensures.stopped c.if-turn-eq-STOPPED.true)

pub returns-clause-had : goal.returns-clause-had
returns-clause-had g c =
    let after = c.sleep_for_turn-had.new.seat.me in
    subst (λ (x : Seated g.row.O.Denot). MatchBool c.sleep_for_turn-had.result (GotTurn g.O.Outlet.piece g.O.Outlet.out x after) (after ≡ refused x))
    (c.try_often-turn.ensures.not c.if-turn-eq-FREE.false c.if-turn-eq-STOPPED.false) c.sleep_for_turn-had.ensures.had

pub returns-clause-going : goal.returns-clause-going
returns-clause-going g c =
    let after = c.sleep_for_turn-had.new.seat.me in
    subst (λ (x : Seated g.row.O.Denot). MatchBool c.sleep_for_turn-had.result (x.0.stopped ≡ false) (Stopped after))
    (c.try_often-turn.ensures.not c.if-turn-eq-FREE.false c.if-turn-eq-STOPPED.false) c.sleep_for_turn-had.ensures.going
