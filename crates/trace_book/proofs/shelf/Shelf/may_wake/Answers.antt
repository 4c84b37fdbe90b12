-- The book is as it was.
use Rattle.trace_book.proofs.Moves.{out_slot, book_is, put_same}
use Rattle.trace_book.proofs.shelf.Shelf.may_wake.Goals as goal

pub exchange-requires : goal.exchange-requires
exchange-requires g c = (c.requires.table, out_slot _ _ c.args.seat.now.me c.requires.has_book)

pub returns-clause-seat : goal.returns-clause-seat
returns-clause-seat g c =
    let me = c.args.seat.now.me in
    let is = book_is _ _ me c.requires.has_book _ c.in-Some.book c.exchange.ensures.2 c.in-Some.is in
    put_same _ _ me _ _ _ c.in-Some.book c.requires.has_book c.exchange.ensures.3 c.exchange-2.ensures.3 is
