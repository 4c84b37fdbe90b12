use Rattle.std.proofs.Common.{◌∙◌, length, ap}
use Rattle.machine_spec.specs.Opening.{round_starts}
use Rattle.machine_book.specs.Bound.{BoundTo}
use Rattle.machine_desk.proofs.Keeping.{kept_none}
use Rattle.program_run.proofs.Threads.{may_all}
use Rattle.program_run.proofs.together.run_on_book.Goals as goal

pub run_round-requires-clause-may : goal.run_round-requires-clause-may
run_round-requires-clause-may g c = λ κs lives.
    may_all c.new-book.result (length c.args.it.programs.items) (ap (λ (b : BoundTo _). b.history) c.new-book.ensures) (ap (λ (b : BoundTo _). b.opening.rounds) c.new-book.ensures ∙ ap (round_starts 0) c.requires.rounds)

-- nothing began, so the outlet is as it was
pub returns-in-Err-clause-kept : goal.returns-in-Err-clause-kept
returns-in-Err-clause-kept g c =
    let same = c.in-Err.ensures.err ∙ c.new-book.ensures in
    let outlet = c.end-history-in-Err.ensures.outlet ∙ ap (λ (b : BoundTo _). b.outlet) same in
    let history = c.end-history-in-Err.ensures.history ∙ ap (λ (b : BoundTo _). b.history) same in
    rw (outlet, history) (kept_none g.O.Outlet.piece (g.O.Outlet.out c.args.outlet))
