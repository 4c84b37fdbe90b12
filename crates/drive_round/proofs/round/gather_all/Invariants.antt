use Rattle.std.proofs.Common.{◌≡◌, ◌≤◌, ◌+◌, ℕ, Option, length, map, vec_len, vec_capacity}
use mathlib.Core.List.{IsPrefix}
use Rattle.tree_files.specs.Files.{Files}
use Rattle.trace_book.specs.declared.view.Base.{Base}
use Rattle.drive_round.specs.Ran.{Runs, counted}
use Rattle.drive_round.specs.Workers.{Descends, RanAt, Gathered, facts}
use Rattle.drive_round.proofs.round.gather_all.Given as goal

abbrev pub invariant-loop-worker : goal.invariant-loop-worker
invariant-loop-worker g l =
    let shelf = l.shelf.table.shared.table_id in
    let seen = facts g.P.Program.run g.T.Tree.files g.T.Tree.faults g.T.Tree.lists in
    let tally = counted g.T.Tree.faults g.T.Tree.lists in record {
      workers : IsPrefix l.workers.items l.fn.workers.items;
      count : length l.results.items + length l.workers.items ≡ length l.fn.workers.items;
      room : length l.fn.workers.items ≤ vec_capacity l.results;
      as_many : length l.trees.items ≡ length l.results.items;
      tree_room : length l.fn.workers.items ≤ vec_capacity l.trees;
      table : l.pass.table ≡ shelf;
      gathered : (base : Base) (files : Option Files) (from : ℕ) (runs : Runs) (fuel : ℕ)
          → Descends (λ k w. RanAt shelf base files from runs fuel k (seen w)) (length l.fn.workers.items) l.fn.workers.items
          → Gathered shelf base files from runs fuel (length l.results.items) l.pass (map tally l.trees.items) l.results.items;
    }

abbrev pub decreases-loop-worker : goal.decreases-loop-worker
decreases-loop-worker g l = vec_len l.workers
