use Rattle.std.proofs.Common.{rules}
use Rattle.trace_book.proofs.Moves.{gives_from}
use Rattle.trace_book.proofs.shelf.Shelf.give_back.Goals as goal

pub swap-requires : goal.swap-requires
swap-requires g c = (search rules, search rules, gives_from _ _ _ _ _ c.args.seat.now.me _ c.requires.has_book c.requires.turn)
