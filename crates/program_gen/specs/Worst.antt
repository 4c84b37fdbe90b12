-- How a script ended, entry by entry.
use Rattle.std.specs.Prelude.{ℕ, ◌==◌, Option, Some, None, if◌then◌else◌}
use Rattle.machine_events.specs.declared.event.Entry.{Entry}
use Rattle.machine_events.specs.declared.event.Outcome.{Outcome}
use Rattle.program_run.specs.Ends.{end_in, number_of}

-- an entry that is no End leaves the number as it was; an End has its own
abbrev pub number_or : ℕ → Option Outcome → ℕ
number_or number None = number
number_or number (Some outcome) = number_of outcome

-- the number of how a script ended, where an entry comes behind others
abbrev pub number_behind : ℕ → Entry → ℕ → ℕ
number_behind number entry script = if entry.thread == script then number_or number (end_in entry.event) else number
