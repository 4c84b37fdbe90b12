use Rattle.std.proofs.Common.{◌≡◌, [], drop}
use Rattle.std.specs.Option.{ForSome}
use Rattle.import_report.specs.Seeking.{seek}
use Rattle.import_report.proofs.seeking.search.Given as goal

abbrev pub invariant-loop-entry : goal.invariant-loop-entry
invariant-loop-entry g l = record {
  found : ForSome (g.T.Tree.files l.tree) (λ f. seek f l.fn.name (drop l.entry-index l.entry-items) l.portions ≡ seek f l.fn.name l.fn.path []);
  files : g.T.Tree.files l.tree ≡ g.T.Tree.files l.fn.tree;
  faults : g.T.Tree.faults l.tree ≡ g.T.Tree.faults l.fn.tree;
  lists : g.T.Tree.lists l.tree ≡ g.T.Tree.lists l.fn.tree;
}
