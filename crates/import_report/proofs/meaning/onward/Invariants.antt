use Rattle.std.proofs.Common.{◌≡◌, drop, map}
use Rattle.std.specs.Option.{ForSome}
use Rattle.import_report.specs.Meanings.{onward}
use Rattle.import_report.proofs.meaning.onward.Given as goal

abbrev pub invariant-loop-part : goal.invariant-loop-part
invariant-loop-part g l = record {
  means : ForSome (g.T.Tree.files l.tree) (λ f. onward f l.name l.means (map (λ x. x.now) (drop l.part-index l.parts)) ≡ onward f l.fn.front l.fn.means (map (λ x. x.now) l.parts));
  files : g.T.Tree.files l.tree ≡ g.T.Tree.files l.fn.tree;
  faults : g.T.Tree.faults l.tree ≡ g.T.Tree.faults l.fn.tree;
  lists : g.T.Tree.lists l.tree ≡ g.T.Tree.lists l.fn.tree;
}
