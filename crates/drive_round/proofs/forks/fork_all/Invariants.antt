use Rattle.std.proofs.Common.{◌≡◌, length}
use Rattle.std.specs.List.{All}
use Rattle.drive_round.specs.Ran.{IsNewTree}
use Rattle.drive_round.proofs.forks.fork_all.Given as goal

abbrev pub invariant-loop : goal.invariant-loop
invariant-loop g l = record {
  files : g.T.Tree.files l.tree ≡ g.T.Tree.files l.fn.tree;
  faults : g.T.Tree.faults l.tree ≡ g.T.Tree.faults l.fn.tree;
  lists : g.T.Tree.lists l.tree ≡ g.T.Tree.lists l.fn.tree;
  count : length l.forks.items ≡ l.counter;
  forks : All (IsNewTree g.T.Tree.files g.T.Tree.faults g.T.Tree.lists (g.T.Tree.files l.fn.tree)) l.forks.items;
}
