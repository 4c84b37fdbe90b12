-- Where a recorded list of a script's events parts from what the script means.
use Rattle.std.specs.Prelude.{ℕ, ◌≡◌, ◌<◌, ◌+◌, ◌==◌, ◌⊎◌, Bool, true, false, if◌then◌else◌, List, [], ◌∷◌, Some, take, slice_get}
use Rattle.tree_files.specs.Files.{Files}
use Rattle.machine_events.specs.declared.event.Event.{Event}
use Rattle.machine_events.specs.declared.event.Event.TheVariants as e
use Rattle.machine_events.specs.declared.event.Reply.{Reply}
use Rattle.machine_events.specs.declared.event.Outcome.{Outcome}
use Rattle.machine_events.specs.declared.event.Outcome.TheVariants as o
use Rattle.machine_events.specs.declared.event.Follow.{Follow}
use Rattle.machine_events.specs.declared.event.Follow.TheVariants as ways
use Rattle.meaning_runs.specs.Runs.{Run, How, Stop, Came, Cut, on_budget, replies_of}
use Rattle.meaning_runs.specs.Follows.{Follows, Ends}
use Rattle.drive_account.specs.Replay.{AllFit}

-- the budget that an End tells: what was paid, where a call of the tree failed, and else the fuel
abbrev pub budget_of : ℕ → Outcome → ℕ → ℕ
budget_of fuel o.Normal spent = fuel
budget_of fuel (o.Raised error) spent = fuel
budget_of fuel o.Fuel spent = fuel
budget_of fuel o.Read spent = spent

-- the budget that an event tells, where it is an End, and else one that is given
abbrev pub budget_or : ℕ → Event → ℕ → ℕ
budget_or fuel (e.End outcome spent) other = budget_of fuel outcome spent
budget_or fuel event other = other

-- the budget by which a list is to be followed: that of its first End, and the fuel where it has none
abbrev pub budget_by : ℕ → List (Event × Reply) → ℕ
budget_by fuel [] = fuel
budget_by fuel (pair ∷ own) = budget_or fuel pair.0 (budget_by fuel own)

-- the run with this budget makes these pairs on their replies, and stops so
abbrev pub StopsBy : Files → ℕ → Run → ℕ → List (Event × Reply) → Stop → Type 0
StopsBy files t run budget before stop =
    on_budget files t run budget (replies_of before) ≡ record { pairs = before; stop = stop; left = [] }

-- the End that is due where the run is over: it tells how, by what the budget is
pub record IsDueEnd (files : Files) (t : ℕ) (run : Run) (fuel budget : ℕ) (before : List (Event × Reply)) (event : Event) : Type 0 where
  pub how : How
  pub outcome : Outcome
  pub paid : ℕ
  pub is : event ≡ e.End outcome paid
  pub within : budget ≡ budget_of fuel outcome paid
  pub ends : Ends fuel outcome paid how
  pub over : StopsBy files t run budget before (Came how)

-- where a run is over in this way, no End tells it by what the budget is
abbrev pub NoEnd : ℕ → ℕ → How → Type 0
NoEnd fuel budget how = (outcome : Outcome) (paid : ℕ) → budget ≡ budget_of fuel outcome paid → Ends fuel outcome paid how → ⊥

-- the event that is due after these pairs: the next that the run makes on their replies with this budget,
-- or, where the run is over, the End
abbrev pub IsDue : Files → ℕ → Run → ℕ → ℕ → List (Event × Reply) → Event → Type 0
IsDue files t run fuel budget before event =
    StopsBy files t run budget before (Cut event) ⊎ IsDueEnd files t run fuel budget before event

-- at this place of the list stands the event that is due there. A reply
-- of a kind that its event cannot get ends what the script means, so no event is due behind it
pub record IsRightAt (files : Files) (t : ℕ) (run : Run) (fuel : ℕ) (own : List (Event × Reply)) (at : ℕ) : Type 0 where
  pub pair : Event × Reply
  pub there : slice_get own at ≡ Some pair
  pub fit : AllFit (take at own)
  pub due : IsDue files t run fuel (budget_by fuel own) (take at own) pair.0

-- the list is all that the script makes, up to its one End, and each reply fits
pub record IsWhole (files : Files) (t : ℕ) (run : Run) (fuel : ℕ) (own : List (Event × Reply)) : Type 0 where
  pub outcome : Outcome
  pub follows : Follows files t run fuel own outcome
  pub fit : AllFit own

-- the least place that parts: a place of the list with an event that is not the one
-- that is due, or the length of the list, where an event or the End is missing
pub record IsPart (files : Files) (t : ℕ) (run : Run) (fuel : ℕ) (own : List (Event × Reply)) (at : ℕ) : Type 0 where
  pub before : (i : ℕ) → i < at → IsRightAt files t run fuel own i
  pub here : IsRightAt files t run fuel own at → ⊥
  pub broken : IsWhole files t run fuel own → ⊥

-- whether a recorded list follows what the script means
abbrev pub Answers : Files → ℕ → Run → ℕ → List (Event × Reply) → Follow → Type 0
Answers files t run fuel own ways.Yes = IsWhole files t run fuel own
Answers files t run fuel own (ways.Parts at) = IsPart files t run fuel own at

-- where the event that is due is refused, its place parts; but where it stands there with a reply of no kind for it,
-- the place behind it
abbrev pub part_of : Bool → ℕ → ℕ
part_of true at = at + 1
part_of false at = at

-- behind the End the list has to be used up
abbrev pub answer_behind : ℕ → ℕ → Follow
answer_behind at count = if at == count then ways.Yes else ways.Parts at
