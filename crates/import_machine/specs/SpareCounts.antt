-- How many open loads there are of each name, and what the test of an event asks of these counts.
use Rattle.std.specs.Prelude.{◌≡◌, ℕ, false, List, Option, Some, None, count_by}
use Rattle.std.specs.List.{list_any}
use Rattle.std.specs.Ordering.{nat_cmp}
use Rattle.std.specs.Cmp.Lexicographic.{slice_cmp}
use Rattle.std.specs.FinMap.{FinMap, get}
use Rattle.module_lock.specs.Table.{owner_of, holds}
use Rattle.machine_spec.specs.declared.state.State.{State}
use Rattle.machine_spec.specs.Allowed.{is_open_of, counts_for}

-- what has no count counts 0
abbrev pub count_at : Option ℕ → ℕ
count_at None = 0
count_at (Some k) = k

-- a name that the map does not have counts 0
abbrev pub count_of : FinMap (slice_cmp nat_cmp) ℕ → List ℕ → ℕ
count_of counts n = count_at (get counts n)

-- the counts tell of a state what the test of an event asks of all its loads
pub record AreTold (s : State) (counts : FinMap (slice_cmp nat_cmp) ℕ) : Type 0 where
  -- the open loads of a name whose lock is owned, Main aside, are its owner's, and as many as is counted
  pub owned : (t : ℕ) (n : List ℕ) → owner_of s.locks n ≡ Some t → count_of counts n ≡ count_by (counts_for s.table t n) s.table.loads
  -- a thread that owns no lock has no open load but its Main
  pub without : (t : ℕ) → holds s.locks t ≡ false → list_any (is_open_of t) s.table.loads ≡ false
