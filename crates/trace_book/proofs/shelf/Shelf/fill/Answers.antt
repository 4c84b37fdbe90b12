use Rattle.std.proofs.Common.{rules, [], ap, ◌∙◌}
use Rattle.trace_book.specs.Views.{idle}
use Rattle.trace_book.specs.Plays.{Seated, history_out}
use Rattle.trace_book.proofs.Moves.{fills_from, filled}
use Rattle.trace_book.proofs.shelf.Shelf.fill.Goals as goal

pub swap-requires : goal.swap-requires
swap-requires g c = (search rules, search rules, fills_from _ _ _ _ _ c.args.seat.now.me _ c.requires.new)

pub give_back-requires-clause-has_book : goal.give_back-requires-clause-has_book
give_back-requires-clause-has_book g c =
    (filled _ _ c.args.seat.now.me _ _ c.args.book c.args.from c.args.n c.swap.ensures.2.0 c.requires.new c.swap.ensures.2.1 c.swap.ensures.2.2 c.exchange.ensures.3).1

pub returns-clause-seat : goal.returns-clause-seat
returns-clause-seat g c =
    let all = (filled g.O.Outlet.piece g.O.Outlet.out c.args.seat.now.me _ _ c.args.book c.args.from c.args.n c.swap.ensures.2.0 c.requires.new c.swap.ensures.2.1 c.swap.ensures.2.2 c.exchange.ensures.3).0 in
    c.give_back.ensures.seat ∙ ap (λ (x : Seated g.row.O.Denot). (idle x.0 (history_out x.1), [])) all
