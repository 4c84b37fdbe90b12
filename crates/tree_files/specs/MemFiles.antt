-- The tree that a map of paths in memory holds, and the calls of it that are to fail.
use Rattle.std.specs.Prelude.{ℕ, Bool, List, [], ◌==◌, ◌&&◌, Option, Some, None, is_none, if◌then◌else◌}
use Rattle.std.specs.List.{list_any, filter_map}
use Rattle.std.specs.Arc.{arc_value}
use Rattle.std.specs.BTreeMap.{BTreeMap}
use Rattle.std.specs.FinMap.{from_entries, empty, insert}
use Rattle.base_types.specs.Path.{Path}
use Rattle.tree_files.specs.Files.{Files, IsTree}
use Rattle.tree_files.specs.Count.{raised}
use Rattle.tree_files.specs.declared.mem_tree.Due.{Due}
use Rattle.tree_files.specs.declared.nodes.Nodes.{Nodes}
use Rattle.tree_files.specs.declared.tree.Node.{Node}
use Rattle.tree_files.specs.declared.tree.Node.TheVariants.{Dir}

-- the files are the entries of the map
abbrev pub map_files : BTreeMap Path Node → Files
map_files m = from_entries m.entries

-- the files of nodes, whoever else owns them
abbrev pub mem_files : Nodes → Files
mem_files nodes = map_files (arc_value nodes.held)

-- the nodes are a tree: the root and all that something stands in are directories
abbrev pub IsTreeMap : Nodes → Type 0
IsTreeMap nodes = IsTree (mem_files nodes)

-- the tree that has nothing but its root, with time 0
abbrev pub root_alone : Files
root_alone = insert empty [] (Dir 0)

-- the calls that are to fail: whose call (None: this tree's; Some j: that of the j-th fork, from 0), and which, from 1
abbrev pub Named : Type 0
Named = List (Option ℕ × ℕ)

-- whether the call is among those that are to fail on this tree
abbrev pub is_due : Named → ℕ → Bool
is_due named call = list_any (λ entry. is_none entry.0 && entry.1 == call) named

-- whether the next call of the tree is to fail
abbrev pub is_next_due : Due → Bool
is_next_due due = is_due due.named (raised due.calls 1)

-- one call more was made
abbrev pub after_call : Due → Due
after_call due = record { named = due.named; calls = raised due.calls 1; forks = due.forks }

-- an entry for the j-th fork, as the fork's own
abbrev pub handed_to : ℕ → (Option ℕ × ℕ) → Option (Option ℕ × ℕ)
handed_to j (None, call) = None
handed_to j (Some i, call) = if i == j then Some (None, call) else None

-- what is to fail on the j-th fork
abbrev pub of_fork : ℕ → Named → Named
of_fork j named = filter_map (handed_to j) named

-- what is to fail on the next fork, of which no call was made
abbrev pub fork_due : Due → Due
fork_due due = record { named = of_fork due.forks due.named; calls = 0; forks = 0 }

-- one fork more was made
abbrev pub after_fork : Due → Due
after_fork due = record { named = due.named; calls = due.calls; forks = raised due.forks 1 }
