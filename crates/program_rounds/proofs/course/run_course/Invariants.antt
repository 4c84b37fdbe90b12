use Rattle.std.proofs.Common.{◌≡◌, ◌≤◌, take}
use Rattle.drive_round.specs.Ran.{counted}
use Rattle.program_rounds.specs.Course.{HasCome, under_by}
use Rattle.program_rounds.proofs.course.run_course.Given as goal

abbrev pub invariant-loop-round : goal.invariant-loop-round
invariant-loop-round g l =
    let tally = counted g.T.Tree.faults g.T.Tree.lists in record {
      files : g.T.Tree.files l.tree ≡ g.T.Tree.files l.fn.tree;
      grows : g.T.Tree.faults l.fn.tree ≤ g.T.Tree.faults l.tree;
      come : HasCome g.O.Outlet.piece g.O.Outlet.out g.S.Scripts.means (under_by (g.T.Tree.files l.fn.tree) l.fuel l.texts (tally l.fn.tree) l.fn.book.opening (g.O.Outlet.out l.fn.book.outlet))
          (take l.round-index l.rounds) (tally l.tree) l.course.book l.course.edits l.course.results (λ r. r.items);
    }
