-- Calls over a tree whose bundles stand as folders.
use Rattle.std.specs.Prelude.{◌≡◌, List, ℕ, MatchOption}
use Rattle.bundle_hook.specs.Expand.{expand_told}
use Rattle.import_words.specs.declared.plan.RunPlan.{RunPlan}
use Rattle.program_run.specs.Alone.{Means}
use Rattle.program_run.specs.Runs.{HasRun, finished}
use Rattle.program_run.specs.Sinks.{Moment, IsShort}
use Rattle.program_run.specs.Statuses.{want_of_memory}
use Rattle.program_run.specs.declared.report.Left.{Left}

-- the same moment, over the expanded files
abbrev pub expanded : Moment → Moment
expanded m = record { files = expand_told m.files; faults = m.faults; lists = m.lists; out = m.out; err = m.err }

-- memory was wanted before a history was begun, and no call of the tree was made: nothing was written, and a count of
-- lists that stands past the greatest u64 may be cut to that; or the programs were run over a fork, whose counts were added
abbrev pub GivesInBundles : Means → RunPlan → List (List ℕ) → Moment → Moment → Left → Type 0
GivesInBundles means plan texts old new left = MatchOption left.history
    ((left.status ≡ want_of_memory) × (new.faults ≡ old.faults) × IsShort old new)
    (λ history. HasRun means plan texts old new (finished history left.status))
