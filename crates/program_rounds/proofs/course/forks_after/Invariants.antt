use Rattle.std.proofs.Common.{◌≡◌, length}
use Rattle.std.specs.List.{All}
use Rattle.tree_files.specs.Count.{raised}
use Rattle.tree_overlay.specs.Told.{edited_told}
use Rattle.drive_round.specs.Ran.{IsNewTree}
use Rattle.program_rounds.proofs.course.forks_after.Given as goal

abbrev pub invariant-loop : goal.invariant-loop
invariant-loop g l = record {
  files : g.T.Tree.files l.tree ≡ g.T.Tree.files l.fn.tree;
  faults : g.T.Tree.faults l.tree ≡ g.T.Tree.faults l.fn.tree;
  lists : g.T.Tree.lists l.tree ≡ g.T.Tree.lists l.fn.tree;
  count : length l.forks.items ≡ l.counter;
  forks : All (IsNewTree (λ fork. edited_told fork.edits (g.T.Tree.files fork.tree)) (λ fork. g.T.Tree.faults fork.tree) (λ fork. raised (g.T.Tree.lists fork.tree) fork.more)
      (edited_told l.edits (g.T.Tree.files l.fn.tree))) l.forks.items;
}
