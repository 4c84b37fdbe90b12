-- What modules do that run as programs is always shown to be allowed.
use Rattle.std.specs.Prelude.{ℕ, List}
use Rattle.machine_shown.specs.Shown.{shown_first}
use Rattle.meaning_runs.specs.Runs.{Safe}
use Rattle.meaning_script.specs.Meaning.{World}
use Rattle.run_module.specs.Programs.{meaning_of_name}

-- what a thread's events show is enough for each event that the module of its name makes next, whatever the replies
abbrev pub ModuleIsSafe : Type 0
ModuleIsSafe = (w : World) (t : ℕ) (n : List ℕ) → Safe (shown_first t) (meaning_of_name w t n)
