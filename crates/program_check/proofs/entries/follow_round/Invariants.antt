use Rattle.std.proofs.Common.{◌≡◌, ◌≤◌, ◌++◌, ℕ, List, Option, length, replicate, take}
use Rattle.tree_files.specs.Files.{Files}
use Rattle.tree_overlay.specs.Told.{edited_told}
use Rattle.program_check.specs.Judge.{AreFollows}
use Rattle.trace_check.specs.Threads.{list_of}
use Rattle.program_check.proofs.entries.follow_round.Given as goal

abbrev pub invariant-loop-i : goal.invariant-loop-i
invariant-loop-i g l = record {
  files : g.T.Tree.files l.tree ≡ g.T.Tree.files l.fn.tree;
  faults : g.T.Tree.faults l.fn.tree ≤ g.T.Tree.faults l.tree;
  each : (trees : List (Option Files)) (before : List (List ℕ)) → l.from ≡ length before → AreFollows g.F.Followed.means l.fuel (list_of l.lists) 0 trees before l.fn.follows.items
      → AreFollows g.F.Followed.means l.fuel (list_of l.lists) 0 (trees ++ replicate l.i (edited_told l.edits (g.T.Tree.files l.fn.tree))) (before ++ take l.i l.texts) l.follows.items;
}
