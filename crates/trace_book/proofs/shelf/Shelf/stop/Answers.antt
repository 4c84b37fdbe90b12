-- The turn was had, and no entry was made.
use Rattle.trace_book.proofs.Moves.{got_book}
use Rattle.trace_book.proofs.shelf.Shelf.stop.Goals as goal

pub give_back-requires-clause-has_book : goal.give_back-requires-clause-has_book
give_back-requires-clause-has_book g c = got_book _ _ c.args.seat.now.me _ c.if-take_turn.ensures.had
