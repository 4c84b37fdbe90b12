-- The turn is given back, with the history of the book.
use Rattle.std.proofs.Common.{true, ap, sym, subst, ◌∙◌, []}
use Rattle.trace_book.specs.Views.{idle, idle_as}
use Rattle.trace_book.specs.Seats.{HasBook}
use Rattle.trace_book.specs.Plays.{Seated, history_out}
use Rattle.trace_book.proofs.shelf.Shelf.make.Goals as goal

pub returns-in-Ok-clause-seat : goal.returns-in-Ok-clause-seat
returns-in-Ok-clause-seat g c =
    let noted = c.in-Ok.ensures.ok in
    c.give_back.ensures.seat ∙ (λ i. (idle (noted.view i) (noted.history i), []))

pub returns-in-Ok-clause-made : goal.returns-in-Ok-clause-made
returns-in-Ok-clause-made g c = c.in-Ok.ensures.ok.made

pub returns-in-Err-clause-err : goal.returns-in-Err-clause-err
returns-in-Err-clause-err g c = c.give_back-in-Err.ensures.seat ∙ ap (λ (x : Seated g.row.O.Denot). (idle_as true x.0 (history_out x.1), [])) c.in-Err.ensures.err

pub give_back-requires-in-Err-clause-has_book : goal.give_back-requires-in-Err-clause-has_book
give_back-requires-in-Err-clause-has_book g c = subst (λ (x : Seated g.row.O.Denot). HasBook g.O.Outlet.piece g.O.Outlet.out x) (sym c.in-Err.ensures.err) c.requires.has_book
