use Rattle.std.proofs.Common.{rules, ◌∙◌, ap, sym}
use Rattle.drive_round.proofs.Playing.{goes_by, ran_mine}
use Rattle.drive_round.proofs.rounds.run_at_desk.Goals as goal

-- the desk was lent this book, and no call of it changes which one: so the book is what the desk left
pub returns-clause-goes_on : goal.returns-clause-goes_on
returns-clause-goes_on g c =
    let made = c.new-desk.ensures in
    let on = c.run-came.ensures.continues in
    let left = c.book-1.given.1 (sym (ap (λ p. p.name) (on.place ∙ made.place))) in
    goes_by g.O.Outlet.piece g.O.Outlet.out c.args.thread _ _ c.args.book.now _ _ _ on made.opening made.seen made.telling (search rules) (search rules) (search rules) (on.number ∙ made.number) (ap (λ p. p.start) (on.place ∙ made.place)) c.check_gained.ensures

pub returns-clause-ran : goal.returns-clause-ran
returns-clause-ran g c =
    let left = c.book-1.given.1 (sym (ap (λ p. p.name) (c.run-came.ensures.continues.place ∙ c.new-desk.ensures.place))) in
    ran_mine g.T.Tree.files g.T.Tree.faults g.T.Tree.lists c.args.fuel c.args.thread _ _ _ _ _ c.run-came.result (search rules) c.run-came.ensures.ran
