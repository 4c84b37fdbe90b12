-- What a machine makes of a script's run, by the machine's own replies.
use Rattle.std.specs.Prelude.{◌≡◌, ◌≤◌, ℕ, ◌+◌, List, [], ◌∷◌, ◌++◌, map, Option, Some, None, true}
use Rattle.machine_events.specs.declared.event.Event.{Event}
use Rattle.machine_events.specs.declared.event.Event.TheVariants.{End}
use Rattle.machine_events.specs.declared.event.Reply.{Reply}
use Rattle.machine_events.specs.declared.event.Reply.TheVariants.{Done}
use Rattle.machine_events.specs.declared.event.Outcome.{Outcome}
use Rattle.machine_events.specs.declared.event.Outcome.TheVariants as o
use Rattle.machine_events.specs.declared.event.Entry.{Entry}
use Rattle.machine_spec.specs.declared.state.State.{State}
use Rattle.machine_spec.specs.Step.{step}
use Rattle.machine_spec.specs.Legal.{replay}
use Rattle.machine_shown.specs.Shown.{shown_first}
use Rattle.tree_files.specs.Files.{Files}
use Rattle.meaning_runs.specs.Runs.{Run, Over, Pays, Looks, Makes, How, Ended, Spent, told, spend}

-- what one script does in its round
pub record Turn : Type 0 where
  -- the files of the round
  pub files : Files
  -- what the script means
  pub run : Run
  -- the budget at which a call of the tree failed, if one did
  pub stop : Option ℕ

-- what the machine answers an event of thread t in this state
abbrev pub reply_of : ℕ → State → Event → Reply
reply_of t s event = (step s t event).0

-- what that event makes of the state
abbrev pub state_after : ℕ → State → Event → State
state_after t s event = (step s t event).1

-- the pairs that the machine makes of a run of thread t, from a state, and how the run is over
abbrev pub pairs_from : ℕ → Files → State → Run → List (Event × Reply)
pairs_from t f s (Over how) = []
pairs_from t f s (Pays of_tree n next) = pairs_from t f s next
pairs_from t f s (Looks q next) = pairs_from t f s (next (told f q))
pairs_from t f s (Makes event next) = (event, reply_of t s event) ∷ pairs_from t f (state_after t s event) (next (reply_of t s event))

-- how that run is over: the replies of the machine and the answers of the files choose its way
abbrev pub how_from : ℕ → Files → State → Run → How
how_from t f s (Over how) = how
how_from t f s (Pays of_tree n next) = how_from t f s next
how_from t f s (Looks q next) = how_from t f s (next (told f q))
how_from t f s (Makes event next) = how_from t f (state_after t s event) (next (reply_of t s event))

-- the budget of a script is its fuel, or the one at which a call of the tree failed
abbrev pub budget_by : Option ℕ → ℕ → ℕ
budget_by (Some stop) fuel = stop
budget_by None fuel = fuel

-- how it ends, by how its run is over
abbrev pub outcome_by : Option ℕ → How → Outcome
outcome_by (Some stop) how = o.Read
outcome_by None (Ended outcome) = outcome
outcome_by None (Spent of_tree) = o.Fuel

-- the run of a turn, with its budget
abbrev pub run_of : Turn → ℕ → ℕ → Run
run_of turn t fuel = spend (budget_by turn.stop fuel) (shown_first t) turn.run

-- how it is over, from a state
abbrev pub how_of : State → Turn → ℕ → ℕ → How
how_of s turn t fuel = how_from t turn.files s (run_of turn t fuel)

-- its pairs, with its End
abbrev pub turn_pairs : State → Turn → ℕ → ℕ → List (Event × Reply)
turn_pairs s turn t fuel = pairs_from t turn.files s (run_of turn t fuel) ++ (End (outcome_by turn.stop (how_of s turn t fuel)) (budget_by turn.stop fuel), Done) ∷ []

-- the pairs of one thread as lines of a history
abbrev pub entries_of : ℕ → List (Event × Reply) → List Entry
entries_of t pairs = map (λ p. record { thread = t; event = p.0; reply = p.1 }) pairs

-- what the script of a turn adds to the history, with its End as the last line
abbrev pub turn_entries : State → Turn → ℕ → ℕ → List Entry
turn_entries s turn t fuel = entries_of t (turn_pairs s turn t fuel)

-- the history of scripts one after another, of which the first has the number t
abbrev pub history_of : State → List Turn → ℕ → ℕ → List Entry
history_of s [] t fuel = []
history_of s (turn ∷ turns) t fuel = turn_entries s turn t fuel ++ history_of (replay s (turn_entries s turn t fuel)) turns (t + 1) fuel

-- a script can stop there: with that budget its run comes to a payment for a
-- call of the tree that it cannot make, and that payment is within its fuel
abbrev pub CanStopAt : Option ℕ → ℕ → How → Type 0
CanStopAt None fuel how = Unit {0}
CanStopAt (Some stop) fuel how = (how ≡ Spent true) × (stop + 1 ≤ fuel)

-- each script can stop where its turn says, in the state that the scripts before it leave
abbrev pub CanStop : State → List Turn → ℕ → ℕ → Type 0
CanStop s [] t fuel = Unit {0}
CanStop s (turn ∷ turns) t fuel = CanStopAt turn.stop fuel (how_of s turn t fuel) × CanStop (replay s (turn_entries s turn t fuel)) turns (t + 1) fuel

-- no call of the tree fails
abbrev pub HaveNoStops : List Turn → Type 0
HaveNoStops [] = Unit {0}
HaveNoStops (turn ∷ turns) = (turn.stop ≡ None) × HaveNoStops turns
