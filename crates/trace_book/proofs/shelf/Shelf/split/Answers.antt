use Rattle.std.proofs.Common.{rules, ap, suc}
use Rattle.trace_book.specs.Views.{numbers_from}
use Rattle.trace_book.specs.Plays.{Seated}
use Rattle.trace_book.proofs.Passes.{splits_off}
use Rattle.trace_book.proofs.Moves.{not_again}
use Rattle.trace_book.proofs.shelf.Shelf.split.Goals as goal

pub split_seat-requires : goal.split_seat-requires
split_seat-requires g c =
    let t = c.args._number in
    let n = c.requires.seat.0 in
    (search rules, search rules, splits_off _ _ _ _ _ _ t (numbers_from (suc t) n) _ (ap (λ (x : Seated g.row.O.Denot). x.0) c.requires.seat.1) (λ i has. not_again i t n has))
