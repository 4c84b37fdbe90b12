use Rattle.std.proofs.Common.{◌≡◌, take}
use Rattle.program_run.specs.Scripts.{EachOpens}
use Rattle.program_run.proofs.open.open_all.Given as goal

abbrev pub invariant-loop-script : goal.invariant-loop-script
invariant-loop-script g l = record {
  files : g.T.Tree.files l.tree ≡ g.T.Tree.files l.fn.tree;
  faults : g.T.Tree.faults l.tree ≡ g.T.Tree.faults l.fn.tree;
  lists : g.T.Tree.lists l.tree ≡ g.T.Tree.lists l.fn.tree;
  texts : EachOpens (g.T.Tree.files l.fn.tree) (take l.script-index l.scripts) l.texts;
}
