-- What came of scripts, as the lines about their ends and the number of the worst.
use Rattle.std.specs.Prelude.{ℕ, zero, suc, max, List, [], ◌∷◌, ◌++◌, Result, Ok, Err, IfOk}
use Rattle.base_types.specs.declared.no_memory.NoMemory.{NoMemory}
use Rattle.machine_events.specs.declared.event.Event.{Event}
use Rattle.machine_events.specs.declared.event.Reply.{Reply}
use Rattle.machine_events.specs.declared.event.Entry.{Entry}
use Rattle.machine_events.specs.declared.event.Outcome.{Outcome}
use Rattle.machine_shown.specs.Own.{own}
use Rattle.drive_account.specs.declared.end.Ending.{Ending}
use Rattle.drive_account.specs.Ending.{Ended, outcome}
use Rattle.program_run.specs.Statuses.{normal_end}
use Rattle.program_run.specs.Ends.{line_of, number_of}

-- how a script ended, or that memory was wanting
abbrev pub Came : Type 0
Came = Result Ending NoMemory

-- the line about the end of a script; there is none where memory was wanting
abbrev pub line_by : List ℕ → Came → List ℕ
line_by script (Ok ending) = line_of script (outcome ending)
line_by script (Err e) = []

-- the status that the end of a script has; where memory was wanting that of a normal end, so that it weighs nothing
abbrev pub number_by : Came → ℕ
number_by (Ok ending) = number_of (outcome ending)
number_by (Err e) = normal_end

-- the lines about all ends, in the order of the scripts, as far as both lists go
abbrev pub lines_by : List (List ℕ) → List Came → List ℕ
lines_by [] results = []
lines_by (script ∷ scripts) [] = []
lines_by (script ∷ scripts) (result ∷ results) = line_by script result ++ lines_by scripts results

-- the greatest status over all ends, and that of a normal end where there is none
abbrev pub worst_by : List Came → ℕ
worst_by [] = normal_end
worst_by (result ∷ results) = max (number_by result) (worst_by results)

-- each script has an end
abbrev pub AreWhole : List Came → Type 0
AreWhole [] = Unit {0}
AreWhole (Ok ending ∷ results) = AreWhole results
AreWhole (Err e ∷ results) = ⊥

-- the ends stand in the history, of which the first is that of script t
abbrev pub AllEnded : ℕ → List Came → List Entry → Type 0
AllEnded t [] history = Unit {0}
AllEnded t (result ∷ results) history = IfOk result (λ ending. Ended (own t history) (outcome ending)) × AllEnded (suc t) results history

-- a script's own events end with its End
abbrev pub HasEnd : List (Event × Reply) → Type 0
HasEnd mine = (outcome : Outcome) × Ended mine outcome

-- so do those of so many scripts, of which the first has the number t
abbrev pub EachHasEnd : ℕ → ℕ → List Entry → Type 0
EachHasEnd t zero history = Unit {0}
EachHasEnd t (suc n) history = HasEnd (own t history) × EachHasEnd (suc t) n history
