use Rattle.std.proofs.Common.{◌≡◌, ◌≤◌, map}
use Rattle.std.specs.Prelude.{fold}
use Rattle.drive_round.specs.Ran.{absorbed, counted}
use Rattle.drive_round.proofs.forks.absorb_all.Given as goal

abbrev pub invariant-loop-fork : goal.invariant-loop-fork
invariant-loop-fork g l =
    let tally = counted g.T.Tree.faults g.T.Tree.lists in record {
      files : g.T.Tree.files l.tree ≡ g.T.Tree.files l.fn.tree;
      counts : tally l.tree ≡ fold absorbed (tally l.fn.tree) (map tally l.yielded);
      grows : g.T.Tree.faults l.fn.tree ≤ g.T.Tree.faults l.tree;
    }
