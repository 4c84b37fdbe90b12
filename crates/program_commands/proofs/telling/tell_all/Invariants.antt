use Rattle.std.proofs.Common.{◌≡◌, ◌≤◌, ◌+◌, ◌-◌, ◌^◌, length}
use Rattle.std.specs.Option.{ForSome}
use Rattle.import_report.specs.Left.{left, unlisted}
use Rattle.program_run.specs.Sinks.{at}
use Rattle.program_commands.proofs.Lines.{Telling}
use Rattle.program_commands.proofs.telling.tell_all.Given as goal

abbrev pub invariant-lines : goal.invariant-lines
invariant-lines g l = record {
  told : Telling (g.T.Tree.files l.fn.tree) (λ f. left f l.fn.begun) (λ f. left f l.walk) (at g.O.Sink l.fn.out) (at g.O.Sink l.out) l.found;
  files : g.T.Tree.files l.tree ≡ g.T.Tree.files l.fn.tree;
  faults : g.T.Tree.faults l.tree ≡ g.T.Tree.faults l.fn.tree;
  lists : ForSome (g.T.Tree.files l.fn.tree) (λ f. g.T.Tree.lists l.tree + length (unlisted f l.walk) ≤ g.T.Tree.lists l.fn.tree + length (unlisted f l.fn.begun));
  lists_grow : g.T.Tree.lists l.fn.tree ≤ g.T.Tree.lists l.tree;
  out_faults : g.O.Sink.faults l.fn.out ≤ g.O.Sink.faults l.out;
}

abbrev pub decreases-lines : goal.decreases-lines
decreases-lines g l = 2 ^ 64 - l.counter
