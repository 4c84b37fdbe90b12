use Rattle.std.proofs.Common.{◌≡◌, ◌≤◌, ◌-◌, ◌^◌}
use Rattle.std.specs.Option.{ForSome}
use Rattle.import_report.specs.Due.{Lists}
use Rattle.import_report.specs.Left.{left, unlisted}
use Rattle.import_report.proofs.walk.Walk.next.Given as goal

abbrev pub invariant-parts : goal.invariant-parts
invariant-parts g l = record {
  left : ForSome (g.T.Tree.files l.fn.tree) (λ f. left f l.fn.self ≡ left f l.self);
  lists : ForSome (g.T.Tree.files l.fn.tree) (λ f. Lists (unlisted f l.fn.self) (unlisted f l.self) (g.T.Tree.lists l.fn.tree) (g.T.Tree.lists l.tree));
  files : g.T.Tree.files l.tree ≡ g.T.Tree.files l.fn.tree;
  faults : g.T.Tree.faults l.tree ≡ g.T.Tree.faults l.fn.tree;
  grow : g.T.Tree.lists l.fn.tree ≤ g.T.Tree.lists l.tree;
}

abbrev pub decreases-parts : goal.decreases-parts
decreases-parts g l = 2 ^ 64 - l.counter
