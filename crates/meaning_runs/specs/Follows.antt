-- How a script's pairs follow its meaning, and the law on budgets.
use Rattle.std.specs.Prelude.{◌≡◌, ◌<◌, ◌≤◌, ◌⊎◌, ℕ, ◌+◌, Some, Bool, true, List, [], ◌∷◌, ◌++◌}
use Rattle.machine_events.specs.declared.event.Event.{Event}
use Rattle.machine_events.specs.declared.event.Event.TheVariants.{End}
use Rattle.machine_events.specs.declared.event.Reply.{Reply}
use Rattle.machine_events.specs.declared.event.Reply.TheVariants.{Done}
use Rattle.machine_events.specs.declared.event.Outcome.{Outcome}
use Rattle.machine_events.specs.declared.event.Outcome.TheVariants as o
use Rattle.tree_files.specs.Files.{Files}
use Rattle.machine_shown.specs.Shown.{shown}
use Rattle.meaning_runs.specs.Lists.{ends_in}
use Rattle.meaning_runs.specs.Runs.{Run, Pays, How, Ended, Spent, Came, play, on_budget, gives_up, replies_of, Reaches}

-- with this fuel the script ends in this way, after what was paid
abbrev pub Ends : ℕ → Outcome → ℕ → How → Type 0
Ends fuel o.Normal k how = (how ≡ Ended o.Normal) × (k ≡ fuel)
Ends fuel (o.Raised error) k how = (how ≡ Ended (o.Raised error)) × (k ≡ fuel)
Ends fuel o.Fuel k how = ((of_tree : Bool) × (how ≡ Spent of_tree)) × (k ≡ fuel)
Ends fuel o.Read k how = (how ≡ Spent true) × (k + 1 ≤ fuel)

-- the pairs of thread t are those of the whole run on their replies, and then its end
pub record Follows (files : Files) (t : ℕ) (run : Run) (fuel : ℕ) (mine : List (Event × Reply)) (outcome : Outcome) : Type 0 where
  pub before : List (Event × Reply)
  pub paid : ℕ
  pub how : How
  pub whole : mine ≡ before ++ (End outcome paid, Done) ∷ []
  -- there is no other End
  pub once : ends_in mine ≡ 1
  -- the budget is `paid`, since that is the fuel but at a Read
  pub eval : on_budget files t run paid (replies_of before) ≡ record { pairs = before; stop = Came how; left = [] }
  pub ends : Ends fuel outcome paid how

-- the pairs are those of the run with this budget on their replies, as far as these go
abbrev pub IsPart : Files → ℕ → Run → ℕ → List (Event × Reply) → Type 0
IsPart files t run budget mine = (on_budget files t run budget (replies_of mine)).pairs ≡ mine

-- the first payment that k cannot make, where a run with a greater budget comes to one
pub record StopsAt (files : Files) (t : ℕ) (run : Run) (k fuel : ℕ) (replies : List Reply) : Type 0 where
  pub paid : ℕ
  pub pairs : List (Event × Reply)
  pub of_tree : Bool
  pub units : ℕ
  pub next : Run
  pub rest : List Reply
  pub reaches : Reaches (Some files) run paid pairs (Pays of_tree units next)
  pub paid_for : paid ≤ k
  pub too_much : k < paid + units
  -- the replies up to there
  pub begin : replies ≡ replies_of pairs ++ rest
  -- the run with the greater budget goes on from there, that with k is spent there
  pub same : on_budget files t run k replies ≡ play files (gives_up of_tree (shown t pairs).held) pairs rest
  pub longer : (more : List (Event × Reply)) × ((on_budget files t run fuel replies).pairs ≡ pairs ++ more)

-- a smaller budget makes the events of a greater one, up to the first payment that it cannot make, and
-- then those of a spent script; where it can make every payment, both are the same
abbrev pub BudgetLaw : Files → ℕ → Run → ℕ → ℕ → List Reply → Type 0
BudgetLaw files t run k fuel replies = (on_budget files t run k replies ≡ on_budget files t run fuel replies) ⊎ StopsAt files t run k fuel replies
