use Rattle.std.proofs.Common.{◌∙◌, ap}
use Rattle.machine_spec.specs.Opening.{round_starts}
use Rattle.machine_book.specs.Bound.{BoundTo}
use Rattle.rows_threads.proofs.Beginning.{may_all}
use Rattle.rows_threads.proofs.stopped.open_book.Goals as goal

pub returns : goal.returns
returns c =
    may_all c.new-book.result 2 (ap (λ (b : BoundTo _). b.history) c.new-book.ensures)
    (ap (λ (b : BoundTo _). b.opening.rounds) c.new-book.ensures ∙ ap (round_starts 0) c.in-Ok.ensures.rounds)
