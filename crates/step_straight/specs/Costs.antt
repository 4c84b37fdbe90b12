-- What a run pays on its way.
use Rattle.std.specs.Prelude.{◌≡◌, ℕ, ◌+◌, List, [], ◌∷◌}
use Rattle.meaning_runs.specs.Runs.{Run}
use Rattle.meaning_runs.specs.Costs.{pay}

-- one payment behind the other, none of them for a call of the tree, and then the other run
abbrev pub paying : List ℕ → Run → Run
paying [] next = next
paying (n ∷ ns) next = pay n (paying ns next)

-- payments in one sum
abbrev pub in_all : List ℕ → ℕ
in_all [] = 0
in_all (n ∷ ns) = n + in_all ns

-- the run pays so many units in all, and goes on as the other run
pub record Costs (units : ℕ) (run next : Run) : Type 0 where
  pub payments : List ℕ
  pub all : in_all payments ≡ units
  pub same : run ≡ paying payments next
