use Rattle.std.proofs.Common.{◌≡◌, ◌≤◌, ◌-◌, ◌^◌}
use Rattle.std.specs.Option.{IfSome}
use Rattle.tree_walk.specs.Due.{IsUnderWay}
use Rattle.tree_walk.proofs.take.take_files.Given as goal

abbrev pub invariant-folders : goal.invariant-folders
invariant-folders g l = record {
  so_far : IfSome (g.T.Tree.files l.fn.tree) (λ f. IsUnderWay f l.fn.dir l.walk);
  files : g.T.Tree.files l.tree ≡ g.T.Tree.files l.fn.tree;
  faults : g.T.Tree.faults l.tree ≡ g.T.Tree.faults l.fn.tree;
  lists : g.T.Tree.lists l.fn.tree ≤ g.T.Tree.lists l.tree;
}

abbrev pub decreases-folders : goal.decreases-folders
decreases-folders g l = 2 ^ 64 - l.counter
