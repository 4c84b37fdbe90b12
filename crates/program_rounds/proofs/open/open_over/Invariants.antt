use Rattle.std.proofs.Common.{◌≡◌, take}
use Rattle.tree_files.specs.Count.{raised}
use Rattle.tree_overlay.specs.Told.{edited_told}
use Rattle.program_rounds.specs.Opened.{files_after, EachRoundOpens}
use Rattle.program_rounds.proofs.open.open_over.Given as goal

abbrev pub invariant-loop-round : goal.invariant-loop-round
invariant-loop-round g l = record {
  files : edited_told l.over.edits (g.T.Tree.files l.over.tree) ≡ files_after (edited_told l.fn.over.edits (g.T.Tree.files l.fn.over.tree)) (take l.round-index l.rounds);
  faults : g.T.Tree.faults l.over.tree ≡ g.T.Tree.faults l.fn.over.tree;
  lists : raised (g.T.Tree.lists l.over.tree) l.over.more ≡ raised (g.T.Tree.lists l.fn.over.tree) l.fn.over.more;
  texts : EachRoundOpens (edited_told l.fn.over.edits (g.T.Tree.files l.fn.over.tree)) (take l.round-index l.rounds) l.texts;
}
