use Rattle.std.proofs.Common.{◌≡◌, ◌≤◌, ◌-◌, length, take, vec_len}
use Rattle.std.specs.Option.{IfSome}
use Rattle.tree_files.specs.Files.{node_at, bytes_of}
use Rattle.base_types.specs.declared.limits.TheConstants.{LONGEST_SOURCE}
use Rattle.path_finder.proofs.load.load_text.Given as goal

abbrev pub invariant-loop-text : goal.invariant-loop-text
invariant-loop-text g l = record {
  fits : vec_len l.text ≤ LONGEST_SOURCE;
  room : length l.buffer ≡ 4096;
  so_far : IfSome (g.T.Tree.files l.initial.tree) (λ f. l.text.items ≡ take (vec_len l.text) (bytes_of (node_at f l.file)));
  files : g.T.Tree.files l.tree ≡ g.T.Tree.files l.initial.tree;
  faults : g.T.Tree.faults l.tree ≡ g.T.Tree.faults l.initial.tree;
  lists : g.T.Tree.lists l.tree ≡ g.T.Tree.lists l.initial.tree;
}

abbrev pub decreases-loop-text : goal.decreases-loop-text
decreases-loop-text g l = LONGEST_SOURCE - vec_len l.text
