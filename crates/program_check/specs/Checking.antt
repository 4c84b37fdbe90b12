-- How a call ends that judges a stored trace.
use Rattle.std.specs.Prelude.{◌≡◌, ℕ, List, [], ◌∷◌, ◌++◌, codes, Some}
use Rattle.tree_files.specs.Count.{Rose}
use Rattle.words_rounds.specs.declared.rounds.Round.{Round}
use Rattle.import_words.specs.Words.{Word}
use Rattle.import_words.specs.declared.plan.RunPlan.{RunPlan}
use Rattle.program_run.specs.Alone.{Means}
use Rattle.program_run.specs.Sinks.{Moment, Leaves, status_by}
use Rattle.program_run.specs.Statuses.{refusal, tree_fault, sink_fault, want_of_memory}
use Rattle.program_run.specs.declared.open.Unopened.{Unopened}
use Rattle.program_run.specs.declared.open.Unopened.TheVariants as stops
use Rattle.program_commands.specs.Opening.{Names, unopened_line}
use Rattle.tree_walk.specs.declared.open.Read.{Read}
use Rattle.tree_walk.specs.declared.open.Read.TheVariants as read
use Rattle.trace_check.specs.declared.answers.Verdict.{Verdict}
use Rattle.program_check.specs.Judge.{Judge}
use Rattle.program_check.specs.Opened.{Opens, IsUnopened}
use Rattle.program_check.specs.Lines.{verdict_line, status_of}

-- the line about a thing that cannot be opened was written to `err`, and nothing to `out`
abbrev pub Refuses : List ℕ → Moment → Moment → ℕ → Type 0
Refuses line old new status = Leaves (status_by refusal refusal) [] line old new status

-- so was the line about a failed call of the tree
abbrev pub Fails : Moment → Moment → ℕ → Type 0
Fails old new status = Leaves (status_by tree_fault sink_fault) []
    (codes "pyimport: file fault" ++ 10 ∷ []) old new status

-- memory was wanted before anything was written
pub record Lacks (old new : Moment) (status : ℕ) : Type 0 where
  pub is : status ≡ want_of_memory
  pub out : new.out ≡ old.out
  pub err : new.err ≡ old.err

-- the line about a verdict was written to `out`, and nothing to `err`
abbrev pub Says : ℕ → Verdict → Moment → Moment → ℕ → Type 0
Says entries verdict old new status =
    Leaves (status_by (status_of verdict) sink_fault) (verdict_line entries verdict) [] old new status

-- what is said where a thing was not opened
abbrev pub Unmade : Unopened → Moment → Moment → ℕ → Type 0
Unmade (stops.Refused line) old new status = Refuses line.items old new status
Unmade stops.Unread old new status = Fails old new status
Unmade stops.NoMemory old new status = Lacks old new status

-- the text of a trace was there: how the call ends that judges it against the scripts of a plan
pub data ChecksText (means : Means) (bytes : List ℕ) (plan : RunPlan) (old new : Moment) (status : ℕ) : Type 0 where
  -- each script has a text, and the line about the verdict was written
  judged : (rounds : List Round) (texts : List (List ℕ)) (entries : ℕ) (verdict : Verdict)
      → Opens old.files plan rounds texts → Judge means old.files plan rounds texts bytes entries verdict
      → Says entries verdict old new status
      → ChecksText means bytes plan old new status
  -- the rounds file or a script cannot be opened: a line about the first
  unopened : (line : List ℕ) → IsUnopened old.files plan line → Refuses line old new status
      → ChecksText means bytes plan old new status
  -- a call of the tree failed before there was a verdict: a line about it
  unread : Rose old.faults new.faults → Fails old new status → ChecksText means bytes plan old new status
  -- memory was wanted before there was a verdict
  short : Lacks old new status → ChecksText means bytes plan old new status

-- how a call ends that was to judge the trace which a word names, against the scripts of a
-- plan, from one moment to a later one. The trace is opened before the rounds file and the scripts
pub data Checks (means : Means) (word : Word) (plan : RunPlan) (old new : Moment) (status : ℕ) : Type 0 where
  -- the word names a text
  opened : (bytes : List ℕ) → Names old.files word (read.Bytes bytes) → ChecksText means bytes plan old new status
      → Checks means word plan old new status
  -- it names no file at a tree path, or one that is too long: a line about it
  unopened : (it : Read) (line : List ℕ) → Names old.files word it → unopened_line word it ≡ Some line
      → Refuses line old new status → Checks means word plan old new status
  -- a call of the tree failed before the text was read: a line about it
  unread : Rose old.faults new.faults → Fails old new status → Checks means word plan old new status
  -- memory was wanted before the text was read
  short : Lacks old new status → Checks means word plan old new status
