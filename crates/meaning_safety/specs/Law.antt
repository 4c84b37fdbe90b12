-- What scripts do is always shown to be allowed.
use Rattle.std.specs.Prelude.{ℕ, List}
use Rattle.machine_shown.specs.Shown.{shown_first}
use Rattle.meaning_runs.specs.Runs.{Safe}
use Rattle.meaning_script.specs.Meaning.{World, meaning}

-- what a thread's events show is enough for each event that its script makes next, whatever the replies
abbrev pub MeaningIsSafe : Type 0
MeaningIsSafe = (w : World) (t : ℕ) (text : List ℕ) → Safe (shown_first t) (meaning w t text)
