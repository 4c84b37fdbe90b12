-- A book's opening is one with which a machine begins.
use Rattle.std.proofs.Common.{ap}
use Rattle.machine_book.specs.Bound.{BoundTo}
use Rattle.machine_book.proofs.book.Book.check_legal.Goals as goal

pub returns-clause-begun : goal.returns-clause-begun
returns-clause-begun g c =
    let o = c.self.inside.opening in
    let can = c.self.invariant.2 in
    (record { scripts = o.scripts; texts = o.texts; path = o.path; rounds = o.rounds; some = can.some; few = can.few; as_many = can.texts; each = can.each; whole = can.rounds }, ap (λ (x : BoundTo _). x.opening) c.self.view_is)
