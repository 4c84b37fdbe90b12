-- How a call ends that writes a stored trace anew.
use Rattle.std.specs.Prelude.{◌≡◌, ℕ, List, [], ◌∷◌, ◌++◌, codes, Some}
use Rattle.tree_files.specs.Count.{Rose}
use Rattle.machine_events.specs.declared.event.Entry.{Entry}
use Rattle.import_words.specs.Words.{Word}
use Rattle.program_run.specs.Statuses.{normal_end, error_end, refusal, tree_fault, sink_fault, want_of_memory}
use Rattle.program_run.specs.Sinks.{Moment, Leaves, status_by}
use Rattle.trace_text.specs.Trace.{trace}
use Rattle.trace_fields.specs.declared.refusal.Cause.{Cause}
use Rattle.trace_read.specs.Text.{Spelled}
use Rattle.trace_read.specs.Refusing.{RefusedTrace}
use Rattle.tree_walk.specs.declared.open.Read.{Read}
use Rattle.tree_walk.specs.declared.open.Read.TheVariants as read
use Rattle.program_commands.specs.Opening.{Names, unopened_line}
use Rattle.program_commands.specs.Refusals.{refusal_line}

-- the text of a stored trace was there, from one moment to a later one
pub data ConvertsText (bytes : List ℕ) (old new : Moment) (status : ℕ) : Type 0 where
  -- it spells entries, in either format: they are written in the newest one, and nothing is told
  converted : (format : ℕ) (entries : List Entry) → Spelled bytes (format, entries)
      → Leaves (status_by normal_end sink_fault) (trace entries) [] old new status → ConvertsText bytes old new status
  -- it is no trace: a line about its first line that is none
  refused : (line : ℕ) (why : Cause) → RefusedTrace bytes line why
      → Leaves (status_by error_end sink_fault) [] (refusal_line line why) old new status
      → ConvertsText bytes old new status
  -- memory was wanted before anything was written
  short : status ≡ want_of_memory → new.out ≡ old.out → new.err ≡ old.err → ConvertsText bytes old new status

-- how a call ends that was to write the trace anew which a word names, from one moment to a later one
pub data Converts (word : Word) (old new : Moment) (status : ℕ) : Type 0 where
  -- the word names a text
  opened : (bytes : List ℕ) → Names old.files word (read.Bytes bytes) → ConvertsText bytes old new status
      → Converts word old new status
  -- it names no file at a tree path, or one that is too long: a line about it
  unopened : (it : Read) (line : List ℕ) → Names old.files word it → unopened_line word it ≡ Some line
      → Leaves (status_by refusal refusal) [] line old new status → Converts word old new status
  -- a call of the tree failed before the text was read: a line about it
  unread : Rose old.faults new.faults
      → Leaves (status_by tree_fault sink_fault) [] (codes "pyimport: file fault" ++ 10 ∷ []) old new status
      → Converts word old new status
  -- memory was wanted before the text was read: nothing is written
  short : status ≡ want_of_memory → new.out ≡ old.out → new.err ≡ old.err → Converts word old new status
