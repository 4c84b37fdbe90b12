use Rattle.std.proofs.Common.{arith, sym}
use Rattle.trace_book.proofs.Passes.{begins}
use Rattle.trace_book.proofs.shelf.Shelf.open.Goals as goal

pub vacant-made-requires : goal.vacant-made-requires
vacant-made-requires g c = let some = c.requires.some in begins _ _ (c.in-Ok-hold.book, c.args.from, c.args.n) (omega (arith, some)) c.len-count.result (rw (sym c.get.ensures) c.len-count.ensures)
