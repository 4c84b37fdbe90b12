-- How a script ended, and what stands where it was broken off.
use Rattle.std.specs.Prelude.{◌≡◌, ◌≤◌, ℕ, ◌+◌, List, [], ◌∷◌, ◌++◌, true, Some, Option, Bool, ◌⊎◌}
use Rattle.tree_files.specs.Files.{Files}
use Rattle.tree_files.specs.Count.{Rose}
use Rattle.machine_events.specs.declared.event.Event.{Event}
use Rattle.machine_events.specs.declared.event.Event.TheVariants.{End}
use Rattle.machine_events.specs.declared.event.Reply.{Reply}
use Rattle.machine_events.specs.declared.event.Reply.TheVariants.{Done}
use Rattle.machine_events.specs.declared.event.Outcome.{Outcome}
use Rattle.machine_events.specs.declared.event.Outcome.TheVariants as o
use Rattle.machine_shown.specs.Shown.{shown, shown_first, Running}
use Rattle.meaning_runs.specs.Runs.{Run, Over, How, Makes, Reaches, spend, GivesUp}
use Rattle.meaning_runs.specs.Follows.{Ends}
use Rattle.drive_account.specs.View.{View}
use Rattle.drive_account.specs.Holds.{held_in}
use Rattle.drive_account.specs.declared.held.Held.{Held}
use Rattle.drive_account.specs.declared.end.Ending.{Ending}
use Rattle.drive_account.specs.declared.end.Ending.TheVariants as ending

-- the ending is that of the End event
abbrev pub outcome : Ending → Outcome
outcome ending.Normal = o.Normal
outcome (ending.Raised error) = o.Raised error
outcome ending.Fuel = o.Fuel
outcome ending.Read = o.Read

-- a call of the tree failed
abbrev pub IsRead : Ending → Type 0
IsRead ending.Read = Unit {0}
IsRead _ = ⊥

-- a script's own events are those of its meaning, on some answers of its tree and on their replies, and then its End.
-- A tree that tells its files answers by them; any other, as a real folder, may answer otherwise each time
pub record IsMeant (told : Option Files) (t : ℕ) (run : Run) (fuel : ℕ) (mine : List (Event × Reply)) (outcome : Outcome) : Type 0 where
  pub before : List (Event × Reply)
  pub paid : ℕ
  pub how : How
  pub whole : mine ≡ before ++ (End outcome paid, Done) ∷ []
  pub reaches : Reaches told (spend paid (shown_first t) run) 0 before (Over how)
  pub ends : Ends fuel outcome paid how

-- a script ends with one End event
pub record Ended (mine : List (Event × Reply)) (outcome : Outcome) : Type 0 where
  pub before : List (Event × Reply)
  pub paid : ℕ
  pub whole : mine ≡ before ++ (End outcome paid, Done) ∷ []

-- at want of memory the pairs are a part of those of the whole run with the whole fuel, on some answers of its tree; only
-- where the tree's count of faults rose may they be on the way that a failed call leaves: with a budget k
-- the run is spent at a payment for a call of the tree, and what the script holds is being given up
pub data Broken (told : Option Files) (t : ℕ) (run : Run) (fuel : ℕ) (mine : List (Event × Reply)) (old new : ℕ) : Type 0 where
  in_run : (rest : Run) → Reaches told (spend fuel (shown_first t) run) 0 mine rest → Broken told t run fuel mine old new
  at_read : (k : ℕ) → k + 1 ≤ fuel → Rose old new → GivesUp told t run k mine true → Broken told t run fuel mine old new

-- the same of a thread over a tree that changed
abbrev pub BrokenOver : {T : Type 0} → (T → Option Files) → (T → ℕ) → T → T → ℕ → Run → ℕ → List (Event × Reply) → Type 0
BrokenOver files faults old new t run fuel mine = Broken (files old) t run fuel mine (faults old) (faults new)

-- what is held is what the script's own events show
abbrev pub Holds : {S : Type 0} → View S → Held → Type 0
Holds v held = held_in held ≡ (shown v.number v.mine).held

-- a script may make events that are free: it is its turn, and what it holds is known
pub record Idle {S : Type 0} (v : View S) (held : Held) : Type 0 where
  pub ready : v.ready
  pub runs : (shown v.number v.mine).doing ≡ Running
  pub holds : Holds v held

-- what was given up on the way from some pairs to more
abbrev pub Gave : ℕ → List (Event × Reply) → List (Event × Reply) → Type 0
Gave t mine mine' = (files : Option Files) (whole : Run) (budget : ℕ) (of_tree : Bool) → GivesUp files t whole budget mine of_tree → GivesUp files t whole budget mine' of_tree

-- all that was held is given up, and then the script made its End event
pub record GaveAll (t : ℕ) (mine mine' : List (Event × Reply)) (outcome : Outcome) (paid : ℕ) : Type 0 where
  pub before : List (Event × Reply)
  pub gave : Gave t mine before
  pub free : (shown t before).held ≡ []
  pub whole : mine' ≡ before ++ (End outcome paid, Done) ∷ []

-- while things were given up from these pairs on, the port refused an event: whatever script was giving up stands at it
pub record RefusedGiving {S : Type 0} (v : View S) (t : ℕ) (mine : List (Event × Reply)) : Type 0 where
  pub event : Event
  pub refuses : v.refuses event
  pub due : (files : Option Files) (whole : Run) (budget : ℕ) (of_tree : Bool) → GivesUp files t whole budget mine of_tree
      → (next : Reply → Run) × Reaches files (spend budget (shown_first t) whole) 0 v.mine (Makes event next)

-- all that was held is given up, and the port refused the End event
pub record RefusedEnd {S : Type 0} (v : View S) (t : ℕ) (mine : List (Event × Reply)) (outcome : Outcome) (paid : ℕ) : Type 0 where
  pub refuses : v.refuses (End outcome paid)
  pub gave : Gave t mine v.mine
  pub free : (shown t v.mine).held ≡ []

-- the port refused one of the last events of a script that gives up all that it holds and ends
abbrev pub RefusedLast : {S : Type 0} → View S → ℕ → List (Event × Reply) → Outcome → ℕ → Type 0
RefusedLast v t mine outcome paid = RefusedGiving v t mine ⊎ RefusedEnd v t mine outcome paid
