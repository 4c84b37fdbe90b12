-- How a call ends that reports the imports of a folder.
use Rattle.std.specs.Prelude.{◌≡◌, ◌≤◌, ◌+◌, ℕ, List, [], length, Some, None}
use Rattle.std.specs.Option.{ForSome}
use Rattle.base_types.specs.Path.{Path}
use Rattle.tree_files.specs.Count.{Rose}
use Rattle.import_report.specs.Reports.{report_lines, report_folders}
use Rattle.import_words.specs.Words.{Word}
use Rattle.program_run.specs.Sinks.{Moment, Leaves, status_by}
use Rattle.program_run.specs.Statuses.{refusal, tree_fault, sink_fault, want_of_memory}
use Rattle.program_commands.specs.FolderOpening.{Names, unopened_line}
use Rattle.program_commands.specs.Telling.{Tells, Ends, fault_line}
use Rattle.program_commands.specs.declared.telling.Told.{Told}

-- the folder was there, from one moment to a later one: what became of its report, what is written of it, and the
-- status; the tree has counted at most one list for each folder that is reported
pub record ReportsFolder (dir : Path) (path : List Word) (old new : Moment) (status : ℕ) : Type 0 where
  pub told : Told
  pub tells : Tells old.files (λ f. report_lines f dir path) old.faults new.faults old.out new.out told
  pub ends : Ends told old.err new.err status
  pub lists : ForSome old.files (λ f. new.lists ≤ old.lists + length (report_folders f dir))

-- how a call ends that was to report the folder which a word names, by what names mean on this path, from one moment to
-- a later one
pub data Reports (word : Word) (path : List Word) (old new : Moment) (status : ℕ) : Type 0 where
  -- the word names a folder
  opened : (dir : Path) → Names old.files word (Some dir) → ReportsFolder dir path old new status
      → Reports word path old new status
  -- it names no directory at a tree path: a line about it
  unopened : Names old.files word None → new.lists ≡ old.lists
      → Leaves (status_by refusal refusal) [] (unopened_line word) old new status → Reports word path old new status
  -- a call of the tree failed before the folder was opened: a line about it
  unread : Rose old.faults new.faults → new.lists ≡ old.lists
      → Leaves (status_by tree_fault sink_fault) [] fault_line old new status → Reports word path old new status
  -- memory was wanted before the folder was opened: nothing is written
  short : status ≡ want_of_memory → new.lists ≡ old.lists → new.out ≡ old.out → new.err ≡ old.err
      → Reports word path old new status
