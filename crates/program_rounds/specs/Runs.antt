-- What a run of rounds leaves: its history, and what both sinks have got.
use Rattle.std.specs.Prelude.{◌≡◌, ◌≤◌, ℕ, suc, List, [], ◌∷◌, ◌++◌, map, IfSome, MatchOption, length}
use Rattle.tree_files.specs.Files.{Files}
use Rattle.words_rounds.specs.declared.rounds.Round.{Round}
use Rattle.machine_events.specs.declared.event.Entry.{Entry}
use Rattle.machine_spec.specs.declared.state.State.{State}
use Rattle.machine_spec.specs.Legal.{IsLegal}
use Rattle.machine_shown.specs.Own.{own}
use Rattle.meaning_runs.specs.Runs.{Run}
use Rattle.meaning_solo.specs.Made.{Turn}
use Rattle.meaning_solo.specs.Solo.{IsSolo}
use Rattle.import_words.specs.declared.plan.RunPlan.{RunPlan}
use Rattle.program_run.specs.Statuses.{sink_fault, want_of_memory}
use Rattle.program_run.specs.Prints.{out_text}
use Rattle.program_run.specs.Ends.{err_text, status_of}
use Rattle.program_run.specs.Sinks.{Moment, Leaves, status_by}
use Rattle.program_run.specs.Counts.{reads_of, ReadsBy, ListsBy}
use Rattle.program_run.specs.Alone.{Means, Setting, setting}
use Rattle.program_run.specs.Results.{EachHasEnd}
use Rattle.program_run.specs.Runs.{Finished, finished}
use Rattle.program_run.specs.Together.{Acts, terms, AllActOn}
use Rattle.program_run.specs.declared.report.Left.{Left}
use Rattle.drive_round.specs.Solo.{AreTurns, HaveCauses}
use Rattle.program_rounds.specs.Rounds.{AreSingle, scripts_of, trees_of, told_in, opening_in}

-- what scripts of these texts mean, whatever their numbers
abbrev pub meanings : Means → List (List ℕ) → List (ℕ → Run)
meanings means texts = map (λ text t. means t text) texts

-- the one history of rounds of one script each, each over the files of its own round, with stops only where a call of
-- the tree failed; at want of memory a beginning of such a one
pub data IsRun (means : Means) (under : Setting) (opened : State) (rounds : List Round) (texts : List (List ℕ))
    (history : List Entry)
    : Type 0 where
  whole : (turns : List Turn) → AreTurns (trees_of under.files rounds) 0 (meanings means texts) turns
      → HaveCauses turns under.old_faults under.new_faults → IsSolo opened turns under.fuel history
      → IsRun means under opened rounds texts history
  part : (turns : List Turn) (rest : List Entry) → under.status ≡ want_of_memory
      → AreTurns (trees_of under.files rounds) 0 (meanings means texts) turns
      → HaveCauses turns under.old_faults under.new_faults → IsSolo opened turns under.fuel (history ++ rest)
      → IsRun means under opened rounds texts history

-- what a script runs under, over the files of its own round
abbrev pub over_files : Setting → Files → Setting
over_files under files = record under { files = files }

-- scripts of these texts, of which the first has the number t, each act by their meaning over files of their own
pub data EachActs (means : Means) (under : Setting) (history : List Entry) : ℕ → List Files → List (List ℕ)
    → Type 0 where
  none : (t : ℕ) → EachActs means under history t [] []
  more : (t : ℕ) (files : Files) (trees : List Files) (text : List ℕ) (texts : List (List ℕ))
      → Acts (over_files under files) t (means t text) (own t history)
      → EachActs means under history (suc t) trees texts
      → EachActs means under history t (files ∷ trees) (text ∷ texts)

-- the scripts of rounds, over these files as they are edited before each round: where each round has one, they have the
-- history that they have alone; else each acts by its meaning over the files of its own round
pub data RunOver (means : Means) (under : Setting) (opened : State) (rounds : List Round) (texts : List (List ℕ))
    (history : List Entry)
    : Type 0 where
  alone : AreSingle rounds → IsRun means under opened rounds texts history
      → RunOver means under opened rounds texts history
  together : (AreSingle rounds → ⊥) → EachActs means under history 0 (trees_of under.files rounds) texts
      → RunOver means under opened rounds texts history

-- the scripts of these rounds were run with these texts, from one moment to a later one
pub record HasRun (means : Means) (plan : RunPlan) (rounds : List Round) (texts : List (List ℕ)) (old new : Moment)
    (ran : Finished) : Type 0 where
  -- the machine allows the history
  pub legal : IsLegal (opening_in plan rounds texts) ran.history
  -- where the tree tells its files, the scripts' own events are those that they mean
  pub runs : IfSome old.files (λ files. RunOver means (setting files plan.fuel old.faults new.faults ran.status)
      (opening_in plan rounds texts) rounds texts ran.history)
  -- whatever the tree tells, as a real folder tells nothing, they are those that they mean on some answers of it
  pub acts : AllActOn means (terms plan.fuel old.faults new.faults ran.status) 0 (told_in old.files rounds) texts
      ran.history
  -- no more scripts ended by a failed call of the tree than there were such calls
  pub reads : ReadsBy (length (scripts_of rounds)) ran.history old.faults new.faults
  -- and where none did, and memory was not wanted, none failed
  pub unfailed : (ran.status ≡ want_of_memory → ⊥) → reads_of (length (scripts_of rounds)) ran.history ≡ 0
      → new.faults ≤ old.faults
  pub lists : ListsBy (length (scripts_of rounds)) ran.history old.lists new.lists
  -- unless memory was wanted, each script came to its End, whatever the tree tells
  pub ends : (ran.status ≡ want_of_memory → ⊥) → EachHasEnd 0 (length (scripts_of rounds)) ran.history
  -- what was written, and the status
  pub leaves : Leaves (status_by (status_of (length (scripts_of rounds)) ran.history) sink_fault)
      (out_text plan.trace ran.history) (err_text (scripts_of rounds) ran.history) old new ran.status

-- memory was wanted before a history was begun, and nothing has changed; or the scripts were run
abbrev pub Gives : Means → RunPlan → List Round → List (List ℕ) → Moment → Moment → Left → Type 0
Gives means plan rounds texts old new left = MatchOption left.history ((left.status ≡ want_of_memory) × (new ≡ old))
    (λ history. HasRun means plan rounds texts old new (finished history left.status))
