use Rattle.std.proofs.Common.{rules}
use Rattle.trace_book.proofs.Moves.{takes_from}
use Rattle.trace_book.proofs.shelf.Shelf.try_take.Goals as goal

pub compare_exchange-requires : goal.compare_exchange-requires
compare_exchange-requires g c = (search rules, search rules, takes_from _ _ _ _ _ c.args.seat.now.me c.args._number c.requires.1)
