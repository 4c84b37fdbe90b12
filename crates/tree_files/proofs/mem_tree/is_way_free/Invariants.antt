use Rattle.std.proofs.Common.{◌≡◌, take, true, not}
use Rattle.std.specs.List.{list_all}
use Rattle.tree_files.specs.Files.{is_file, node_at}
use Rattle.tree_files.specs.Edits.{prefixes}
use Rattle.tree_files.specs.MemFiles.{mem_files}
use Rattle.tree_files.proofs.mem_tree.is_way_free.Given as goal

abbrev pub invariant-loop-n : goal.invariant-loop-n
invariant-loop-n l = list_all (λ q. not (is_file (node_at (mem_files l.nodes) q))) (take l.n (prefixes l.path)) ≡ true
