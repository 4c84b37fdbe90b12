use Rattle.std.proofs.Common.{◌≡◌, take}
use Rattle.tree_files.specs.Count.{raised}
use Rattle.tree_overlay.specs.Told.{edited_told}
use Rattle.tree_overlay.specs.Rounds.{AreForks}
use Rattle.tree_overlay.proofs.Rounds.{all_edits}
use Rattle.tree_overlay.proofs.forks.edited_forks.Given as goal

abbrev pub invariant-loop-round : goal.invariant-loop-round
invariant-loop-round g l = record {
  files : g.T.Tree.files l.tree ≡ g.T.Tree.files l.fn.tree;
  faults : g.T.Tree.faults l.tree ≡ g.T.Tree.faults l.fn.tree;
  lists : g.T.Tree.lists l.tree ≡ g.T.Tree.lists l.fn.tree;
  edits : l.edits ≡ all_edits (take l.round-index l.rounds);
  forks : AreForks (λ fork. edited_told fork.edits (g.T.Tree.files fork.tree)) (λ fork. g.T.Tree.faults fork.tree)
      (λ fork. raised (g.T.Tree.lists fork.tree) fork.more) (g.T.Tree.files l.fn.tree) (take l.round-index l.rounds) l.forks.items;
}
