use Rattle.std.proofs.Common.{◌≡◌, ◌+◌}
use Rattle.std.specs.Option.{IfSome}
use Rattle.bundle_hook.specs.Indexes.{AreRight, HasNoBundle}
use Rattle.bundle_hook.proofs.place.bundle_on.Given as goal

abbrev pub invariant-loop-n : goal.invariant-loop-n
invariant-loop-n g l = record {
  right : AreRight (g.T.Tree.files l.initial.tree) l.kept;
  none : IfSome (g.T.Tree.files l.initial.tree) (λ f. HasNoBundle f l.path (l.n + 1));
  files : g.T.Tree.files l.tree ≡ g.T.Tree.files l.initial.tree;
  faults : g.T.Tree.faults l.tree ≡ g.T.Tree.faults l.initial.tree;
  lists : g.T.Tree.lists l.tree ≡ g.T.Tree.lists l.initial.tree;
}
