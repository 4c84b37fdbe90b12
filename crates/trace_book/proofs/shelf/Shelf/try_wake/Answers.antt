-- The Wake is allowed where the machine says so.
use Rattle.std.proofs.Common.{◌≡◌, false, [], Result, subst, sym}
use Rattle.std.specs.Prelude.{IfOk}
use Rattle.base_types.specs.declared.no_memory.NoMemory.{NoMemory}
use Rattle.machine_events.specs.declared.event.Reply.{Reply}
use Rattle.machine_events.specs.declared.event.Event.TheVariants as events
use Rattle.trace_book.specs.Plays.{Seated, GotTurn}
use Rattle.trace_book.specs.Views.{idle}
use Rattle.trace_book.specs.Seats.{HasBook, MayStep, may_wake, wakes_after, IsLegalWith, longer_by}
use Rattle.trace_book.proofs.Moves.{got_book, may_make_it, called_from}
use Rattle.trace_book.proofs.shelf.Shelf.try_wake.Goals as goal

pub give_back-requires-clause-has_book : goal.give_back-requires-clause-has_book
give_back-requires-clause-has_book g c = subst (λ (x : Seated g.row.O.Denot). HasBook g.O.Outlet.piece g.O.Outlet.out x) (sym c.may_wake.ensures.seat) (got_book _ _ c.args.seat.now.me _ c.if-not-take_turn.ensures.had)

pub make-requires-clause-has_book : goal.make-requires-clause-has_book
make-requires-clause-has_book g c = subst (λ (x : Seated g.row.O.Denot). HasBook g.O.Outlet.piece g.O.Outlet.out x) (sym c.may_wake.ensures.seat) (got_book _ _ c.args.seat.now.me _ c.if-not-take_turn.ensures.had)

pub make-requires-clause-may : goal.make-requires-clause-may
make-requires-clause-may g c =
    subst (λ (x : Seated g.row.O.Denot). MayStep x c.args.number events.Wake) (sym c.may_wake.ensures.seat)
    (may_make_it _ _ c.args.seat.now.me _ c.args.number events.Wake c.requires.ready c.if-not-take_turn.ensures.had (sym c.if-not-may_wake.ensures.may))

pub may_wake-requires-clause-has_book : goal.may_wake-requires-clause-has_book
may_wake-requires-clause-has_book g c = got_book _ _ c.args.seat.now.me _ c.if-not-take_turn.ensures.had

pub returns-then-not-may_wake-clause-asleep : goal.returns-then-not-may_wake-clause-asleep
returns-then-not-may_wake-clause-asleep g c =
    subst (λ (x : Seated g.row.O.Denot). wakes_after x c.args.number ≡ false) (sym c.give_back.ensures.seat)
    (subst (λ (x : Seated g.row.O.Denot). may_wake x c.args.number ≡ false) (sym c.may_wake.ensures.seat) (sym c.if-not-may_wake.ensures.may))

pub returns-in-Ok-clause-ok : goal.returns-in-Ok-clause-ok
returns-in-Ok-clause-ok g c =
    let me = c.args.seat.now.me in
    let t = c.args.number in
    let had = c.may_wake.new.seat.me in
    let after = c.make.new.seat.me in
    let reply = c.in-Ok.reply in
    let took = subst (λ (x : Seated g.row.O.Denot). GotTurn g.O.Outlet.piece g.O.Outlet.out me x) (sym c.may_wake.ensures.seat) c.if-not-take_turn.ensures.had in
    let gave : after ≡ (idle had.0 (longer_by had t events.Wake reply), []) = subst (λ (d : Result Reply NoMemory). IfOk d (λ r. after ≡ (idle had.0 (longer_by had t events.Wake r), []))) c.in-Ok.is c.make.ensures.seat in
    let made : IsLegalWith had t events.Wake reply = subst (λ (d : Result Reply NoMemory). IfOk d (IsLegalWith had t events.Wake)) c.in-Ok.is c.make.ensures.made in
    (called_from _ _ _ me had after t events.Wake reply c.requires.ready took gave made).2
