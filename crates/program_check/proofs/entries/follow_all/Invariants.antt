use Rattle.std.proofs.Common.{◌≡◌, ◌≤◌, length, take}
use Rattle.tree_overlay.specs.Kinds.{IsBelowRoot}
use Rattle.tree_overlay.specs.Told.{edited_told}
use Rattle.program_rounds.specs.Rounds.{told_in}
use Rattle.program_rounds.specs.Opened.{files_after}
use Rattle.program_rounds.specs.Rounds.{scripts_of}
use Rattle.program_check.specs.Judge.{AreFollows}
use Rattle.trace_check.specs.Threads.{list_of}
use Rattle.program_check.proofs.entries.follow_all.Given as goal

abbrev pub invariant-loop-round : goal.invariant-loop-round
invariant-loop-round g l = record {
  files : g.T.Tree.files l.tree ≡ g.T.Tree.files l.fn.tree;
  faults : g.T.Tree.faults l.fn.tree ≤ g.T.Tree.faults l.tree;
  edits : edited_told l.edits (g.T.Tree.files l.fn.tree) ≡ files_after (g.T.Tree.files l.fn.tree) (take l.round-index l.rounds);
  below : IsBelowRoot l.edits;
  many : length l.follows.items ≡ length (scripts_of (take l.round-index l.rounds));
  each : AreFollows g.F.Followed.means l.fuel (list_of l.lists) 0 (told_in (g.T.Tree.files l.fn.tree) (take l.round-index l.rounds)) (take (length l.follows.items) l.texts) l.follows.items;
}
