use Rattle.std.proofs.Common.{◌≡◌, ◌≤◌, ◌-◌, take, vec_len}
use Rattle.std.specs.Option.{IfSome}
use Rattle.tree_files.specs.Files.{node_at, bytes_of}
use Rattle.bundle_hook.proofs.front.read_front.Given as goal

abbrev pub invariant-loop-done : goal.invariant-loop-done
invariant-loop-done g l = record {
  fits : l.done ≤ l.len;
  room : vec_len l.front ≡ l.len;
  so_far : IfSome (g.T.Tree.files l.initial.tree) (λ f. take l.done l.front.items ≡ take l.done (bytes_of (node_at f l.file)));
  files : g.T.Tree.files l.tree ≡ g.T.Tree.files l.initial.tree;
  faults : g.T.Tree.faults l.tree ≡ g.T.Tree.faults l.initial.tree;
  lists : g.T.Tree.lists l.tree ≡ g.T.Tree.lists l.initial.tree;
}

abbrev pub decreases-loop-done : goal.decreases-loop-done
decreases-loop-done g l = l.len - l.done
