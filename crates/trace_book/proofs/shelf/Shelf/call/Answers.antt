-- The event is allowed once the turn was taken.
use Rattle.trace_book.proofs.Moves.{got_book, may_make}
use Rattle.trace_book.proofs.shelf.Shelf.call.Goals as goal

pub make-requires-clause-has_book : goal.make-requires-clause-has_book
make-requires-clause-has_book g c = got_book _ _ c.args.seat.now.me _ c.if-not-take_turn.ensures.had

pub make-requires-clause-may : goal.make-requires-clause-may
make-requires-clause-may g c = may_make _ _ c.args.seat.now.me _ c.args.number c.args.event c.requires.ready c.if-not-take_turn.ensures.had c.knows_is_allowed.ensures c.requires.turn c.requires.knows
