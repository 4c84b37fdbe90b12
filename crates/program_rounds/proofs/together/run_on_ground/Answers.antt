use Rattle.std.proofs.Common.{◌≡◌, ◌∙◌, ap, refl}
use Rattle.machine_spec.specs.Opening.{round_starts}
use Rattle.machine_book.specs.Bound.{BoundTo}
use Rattle.drive_round.specs.Ran.{counted}
use Rattle.program_rounds.specs.Course.{under_by}
use Rattle.program_rounds.proofs.Several.{kept_by, left_by, legal_by}
use Rattle.program_rounds.proofs.together.run_on_ground.Goals as goal

pub run_course-book-requires-clause-rounds : goal.run_course-book-requires-clause-rounds
run_course-book-requires-clause-rounds g c κs within = ap (λ (b : BoundTo _). b.opening.rounds) c.new-book.ensures ∙ ap (round_starts 0) c.requires.rounds

pub returns-clause-legal : goal.returns-clause-legal
returns-clause-legal g c = legal_by g.O.Outlet.piece g.O.Outlet.out g.S.Scripts.means c.new-book.result c.run_course-book.result.book c.end-history.result.0 c.new-book.ensures c.run_course-book.ensures.come refl c.end-history.ensures.legal

pub returns-clause-kept : goal.returns-clause-kept
returns-clause-kept g c = kept_by g.O.Outlet.piece g.O.Outlet.out g.S.Scripts.means c.new-book.result c.run_course-book.result.book c.end-history.result.0 c.end-history.result.1 c.new-book.ensures c.run_course-book.ensures.come refl c.end-history.ensures.history c.end-history.ensures.outlet

pub returns-clause-left : goal.returns-clause-left
returns-clause-left g c =
    left_by g.S.Scripts.means g.O.Outlet.piece g.O.Outlet.out (under_by (g.T.Tree.files c.args.tree.now) c.args.fuel c.args.texts.now (counted g.T.Tree.faults g.T.Tree.lists c.args.tree.now) c.new-book.result.opening (g.O.Outlet.out c.new-book.result.outlet))
    c.args.rounds.now _ c.run_course-book.result.book c.run_course-book.result.results (λ v. v.items) c.end-history.result.0 c.requires.texts c.end-history.ensures.history c.run_course-book.ensures.come
