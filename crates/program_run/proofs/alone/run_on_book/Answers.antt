use Rattle.std.proofs.Common.{rules, ◌≡◌, ◌∙◌, ap, sym, get_or}
use Rattle.machine_spec.specs.Opening.{round_starts}
use Rattle.machine_book.specs.Bound.{BoundTo}
use Rattle.program_run.proofs.Lone.{ready_first, ran_by}
use Rattle.program_run.proofs.alone.run_on_book.Goals as goal

pub new-desk-requires-clause-ready : goal.new-desk-requires-clause-ready
new-desk-requires-clause-ready g c = ready_first _ _ (ap (λ (b : BoundTo _). b.opening.rounds) c.new-book.ensures ∙ ap (round_starts 0) c.requires.one)

-- the desk was lent this book, and no call of it changes which one: so the book is what the desk left
pub returns-clause-legal : goal.returns-clause-legal
returns-clause-legal g c =
    let left = c.book-2-1.given.1 (sym (ap (λ p. p.name) (c.run-came.ensures.continues.place ∙ c.new-desk.ensures.place))) in
    search rules

pub returns-clause-kept : goal.returns-clause-kept
returns-clause-kept g c =
    let left = c.book-2-1.given.1 (sym (ap (λ p. p.name) (c.run-came.ensures.continues.place ∙ c.new-desk.ensures.place))) in
    search rules

pub returns-clause-ran : goal.returns-clause-ran
returns-clause-ran g c = λ program one.
    let left = c.book-2-1.given.1 (sym (ap (λ p. p.name) (c.run-came.ensures.continues.place ∙ c.new-desk.ensures.place))) in
    let same : c.index-as_slice-0.result ≡ program = c.index-as_slice-0.is ∙ ap (λ xs. get_or xs 0 c.index-as_slice-0.result) (c.as_slice.ensures.value ∙ one) in
    ran_by g.P.Program.run _ _ _ _ _ program _ _ _ same (search rules) c.run-came.ensures.ran
