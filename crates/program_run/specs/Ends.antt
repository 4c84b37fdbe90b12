-- How scripts ended, by their history: the lines about it, and the status. The rules are this project's own.
use Rattle.std.specs.Prelude.{ℕ, zero, suc, max, List, [], ◌∷◌, ◌++◌, codes, Option, Some, None}
use Rattle.std.specs.Option.{option_or}
use Rattle.py_value.specs.Names.{kind_name}
use Rattle.machine_events.specs.declared.event.Event.{Event}
use Rattle.machine_events.specs.declared.event.Event.TheVariants as e
use Rattle.machine_events.specs.declared.event.Reply.{Reply}
use Rattle.machine_events.specs.declared.event.Entry.{Entry}
use Rattle.machine_events.specs.declared.event.Outcome.{Outcome}
use Rattle.machine_events.specs.declared.event.Outcome.TheVariants as o
use Rattle.machine_shown.specs.Own.{own}
use Rattle.program_run.specs.Statuses.{normal_end, error_end, spent_budget, tree_fault}

-- the End event alone tells how a script ended
abbrev pub end_in : Event → Option Outcome
end_in (e.End outcome k) = Some outcome
end_in event = None

-- how a script ended: the outcome of its End event. A script has one at most, and were there more, the last would count
abbrev pub end_of : List (Event × Reply) → Option Outcome
end_of [] = None
end_of (pair ∷ pairs) = option_or (end_of pairs) (end_in pair.0)

-- a text behind a colon, where there is one
abbrev pub behind_colon : List ℕ → List ℕ
behind_colon [] = []
behind_colon (b ∷ bs) = codes ": " ++ b ∷ bs

-- the line about the end of a script, which is named by its word; a normal end has none
abbrev pub line_of : List ℕ → Outcome → List ℕ
line_of script o.Normal = []
line_of script (o.Raised error) = script ++ codes ": " ++ kind_name error.kind ++ behind_colon error.text ++ 10 ∷ []
line_of script o.Fuel = script ++ codes ": fuel spent" ++ 10 ∷ []
line_of script o.Read = script ++ codes ": file fault" ++ 10 ∷ []

-- a script that has no end has no line
abbrev pub line_at : List ℕ → Option Outcome → List ℕ
line_at script None = []
line_at script (Some outcome) = line_of script outcome

-- the lines about these scripts, of which the first has number t
abbrev pub lines_from : ℕ → List (List ℕ) → List Entry → List ℕ
lines_from t [] history = []
lines_from t (script ∷ scripts) history = line_at script (end_of (own t history)) ++ lines_from (suc t) scripts history

-- one line for each end that is not normal, in the order of the scripts
abbrev pub err_text : List (List ℕ) → List Entry → List ℕ
err_text scripts history = lines_from 0 scripts history

-- the status of a call whose one script ended so
abbrev pub number_of : Outcome → ℕ
number_of o.Normal = normal_end
number_of (o.Raised error) = error_end
number_of o.Fuel = spent_budget
number_of o.Read = tree_fault

-- a script that has no end counts as one that ended normally
abbrev pub number_at : Option Outcome → ℕ
number_at None = normal_end
number_at (Some outcome) = number_of outcome

-- the greatest status over the ends of so many scripts
abbrev pub status_of : ℕ → List Entry → ℕ
status_of zero history = normal_end
status_of (suc t) history = max (status_of t history) (number_at (end_of (own t history)))
