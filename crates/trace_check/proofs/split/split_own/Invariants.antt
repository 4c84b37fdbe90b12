use Rattle.std.proofs.Common.{◌≡◌, ◌++◌, ℕ, vec_len}
use Rattle.std.specs.Prelude.{reverse}
use Rattle.machine_shown.specs.Own.{own}
use Rattle.trace_check.specs.Threads.{pairs_of}
use Rattle.trace_check.proofs.split.split_own.Given as goal

abbrev pub invariant-loop-entry : goal.invariant-loop-entry
invariant-loop-entry l = record {
  mine : pairs_of l.pairs ++ own l.t (reverse l.left.items) ≡ own l.t l.fn.entries.items;
  others : (u : ℕ) → (u ≡ l.t → ⊥) → own u l.others.items ++ own u (reverse l.left.items) ≡ own u l.fn.entries.items;
}

abbrev pub decreases-loop-entry : goal.decreases-loop-entry
decreases-loop-entry l = vec_len l.left
