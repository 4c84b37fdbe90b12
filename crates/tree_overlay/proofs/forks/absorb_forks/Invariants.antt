use Rattle.std.proofs.Common.{◌≡◌, ◌≤◌, ◌+◌, ℕ, vec_len}
use Rattle.tree_files.specs.Count.{raised}
use Rattle.tree_overlay.specs.Rounds.{Absorbed, total}
use Rattle.tree_overlay.proofs.forks.absorb_forks.Given as goal

abbrev pub invariant-loop-fork : goal.invariant-loop-fork
invariant-loop-fork g l = record {
  files : g.T.Tree.files l.tree ≡ g.T.Tree.files l.fn.tree;
  grows : g.T.Tree.faults l.fn.tree ≤ g.T.Tree.faults l.tree;
  faults : (new : ℕ) → Absorbed (g.T.Tree.faults l.tree) (total (λ fork. g.T.Tree.faults fork.tree) l.forks.items) new
      → Absorbed (g.T.Tree.faults l.fn.tree) (total (λ fork. g.T.Tree.faults fork.tree) l.fn.forks.items) new;
  lists : (new : ℕ) → new ≤ g.T.Tree.lists l.tree + total (λ fork. raised (g.T.Tree.lists fork.tree) fork.more) l.forks.items
      → new ≤ g.T.Tree.lists l.fn.tree + total (λ fork. raised (g.T.Tree.lists fork.tree) fork.more) l.fn.forks.items;
}

abbrev pub decreases-loop-fork : goal.decreases-loop-fork
decreases-loop-fork g l = vec_len l.forks
