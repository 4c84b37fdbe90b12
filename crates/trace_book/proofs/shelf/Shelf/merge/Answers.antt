use Rattle.std.proofs.Common.{rules, ap, ◌∙◌}
use Rattle.trace_book.specs.Views.{joined}
use Rattle.trace_book.specs.Plays.{Seated}
use Rattle.trace_book.proofs.Passes.{joins_in}
use Rattle.trace_book.proofs.Moves.{merges_from, seat_is}
use Rattle.trace_book.proofs.shelf.Shelf.merge.Goals as goal

pub join_seat-requires : goal.join_seat-requires
join_seat-requires g c =
    let into = c.requires.ready.0 in
    let other = c.requires.ready.1 in
    (search rules, search rules, other.1, search rules, joins_in _ _ _ _ _ _ _ _ _ _ _ _ _ _ _ into.0.idle other.0.idle)

pub load-requires : goal.load-requires
load-requires g c =
    let v = c.args.into.now.me.0 in
    let w = c.args.other.me.0 in
    (search rules, search rules, merges_from _ _ _ _ _ _ v w (c.join_seat.ensures.2 ∙ ap (λ (x : Seated g.row.O.Denot). (joined v w, x.1)) (seat_is g.O.Outlet.piece g.O.Outlet.out c.args.into.now.me c.args._number c.requires.ready.0)))
