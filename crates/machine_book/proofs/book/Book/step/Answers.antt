-- The entry was allowed, and has the machine's reply.
use Rattle.machine_book.specs.Bound.{opened}
use Rattle.machine_book.proofs.Histories.{book_snoc}
use Rattle.machine_book.proofs.book.Book.step.Goals as goal

pub invariant_of-self-2 : goal.invariant_of-self-2
invariant_of-self-2 g c =
    let b = c.self.inside in
    let kept = book_snoc (opened b.opening) b.machine c.answered.new.machine b.history.items c.reserve.new.self.items c.push_reserved.new.self.items (record { thread = c.args.thread; event = c.args.event; reply = c.in-Ok-reply.answer }) (c.self.invariant.0, c.self.invariant.1)
    (rw (← c.self.view_is) at c.requires)
    c.in-Ok-reply.ensures c.in-Ok-answered.ensures.ok c.in-Ok.ensures.items c.push_reserved.ensures.items
    in
    (kept.0, kept.1, c.self.invariant.2)

pub returns-clause-legal : goal.returns-clause-legal
returns-clause-legal g c =
    let b = c.self.inside in
    (book_snoc (opened b.opening) b.machine c.answered.new.machine b.history.items c.reserve.new.self.items c.push_reserved.new.self.items (record { thread = c.args.thread; event = c.args.event; reply = c.in-Ok-reply.answer }) (c.self.invariant.0, c.self.invariant.1)
    (rw (← c.self.view_is) at c.requires)
    c.in-Ok-reply.ensures c.in-Ok-answered.ensures.ok c.in-Ok.ensures.items c.push_reserved.ensures.items).1
