use Rattle.std.proofs.Common.{◌≡◌, ◌≤◌, ◌-◌, length, take, vec_len}
use Rattle.std.specs.Option.{IfSome}
use Rattle.tree_files.specs.Files.{node_at, bytes_of}
use Rattle.tree_walk.proofs.load.load_bytes.Given as goal

abbrev pub invariant-loop-bytes : goal.invariant-loop-bytes
invariant-loop-bytes g l = record {
  fits : vec_len l.bytes ≤ l.most;
  room : length l.piece ≡ 4096;
  so_far : IfSome (g.T.Tree.files l.initial.tree) (λ f. l.bytes.items ≡ take (vec_len l.bytes) (bytes_of (node_at f l.file)));
  files : g.T.Tree.files l.tree ≡ g.T.Tree.files l.initial.tree;
  faults : g.T.Tree.faults l.tree ≡ g.T.Tree.faults l.initial.tree;
  lists : g.T.Tree.lists l.tree ≡ g.T.Tree.lists l.initial.tree;
}

abbrev pub decreases-loop-bytes : goal.decreases-loop-bytes
decreases-loop-bytes g l = l.most - vec_len l.bytes
