-- What the run of several scripts, each in a thread of its own, leaves of each in their one history.
use Rattle.std.specs.Prelude.{◌≡◌, ℕ, suc, List, [], ◌∷◌, fold, Option, Some}
use Rattle.std.specs.List.{AllZip}
use Rattle.tree_files.specs.Files.{Files}
use Rattle.machine_events.specs.declared.event.Event.{Event}
use Rattle.machine_events.specs.declared.event.Reply.{Reply}
use Rattle.machine_events.specs.declared.event.Entry.{Entry}
use Rattle.machine_events.specs.declared.event.Outcome.{Outcome}
use Rattle.machine_shown.specs.Own.{own}
use Rattle.meaning_runs.specs.Runs.{Run}
use Rattle.meaning_runs.specs.Follows.{Follows}
use Rattle.drive_account.specs.Ending.{IsMeant, Broken}
use Rattle.drive_round.specs.Ran.{Counts, Runs, AllRan, absorbed}
use Rattle.program_run.specs.Statuses.{want_of_memory}
use Rattle.program_run.specs.Alone.{Means, Setting}
use Rattle.program_run.specs.Results.{Came}

-- the programs mean, as threads of any number, what these texts mean
abbrev pub Mean : {P : Type 0} → (P → ℕ → Run) → Means → List (List ℕ) → List P → Type 0
Mean run means texts programs = AllZip (λ text program. (t : ℕ) → run program t ≡ means t text) texts programs

-- the programs, of which the first has the number t, mean each as the thread of its number what these texts mean
abbrev pub MeanFrom : {P : Type 0} → (P → ℕ → Run) → Means → ℕ → List (List ℕ) → List P → Type 0
MeanFrom run means t [] [] = Unit {0}
MeanFrom run means t [] (program ∷ programs) = ⊥
MeanFrom run means t (text ∷ texts) [] = ⊥
MeanFrom run means t (text ∷ texts) (program ∷ programs) =
    (run program t ≡ means t text) × MeanFrom run means (suc t) texts programs

-- what scripts of a call share, whatever their trees tell: the fuel of each, the tree's count of faults before and after,
-- and the status of the call
pub record Terms : Type 0 where
  pub fuel : ℕ
  pub old_faults : ℕ
  pub new_faults : ℕ
  pub status : ℕ

-- with this fuel, from one count of faults to another, with this status
abbrev pub terms : ℕ → ℕ → ℕ → ℕ → Terms
terms fuel old new status = record { fuel = fuel; old_faults = old; new_faults = new; status = status }

-- the pairs of script t in a history, whatever its tree tells: they are those of its meaning on some answers of the tree
-- and on their replies, up to its End; at want of memory a part of those
pub data ActsOn (under : Terms) (told : Option Files) (t : ℕ) (run : Run) (mine : List (Event × Reply)) : Type 0 where
  whole : (outcome : Outcome) → IsMeant told t run under.fuel mine outcome → ActsOn under told t run mine
  part : under.status ≡ want_of_memory → Broken told t run under.fuel mine under.old_faults under.new_faults
      → ActsOn under told t run mine

-- so for scripts of these texts, of which the first has the number t, each over a tree that tells this
abbrev pub AllActOn : Means → Terms → ℕ → List (Option Files) → List (List ℕ) → List Entry → Type 0
AllActOn means under t told [] history = Unit {0}
AllActOn means under t [] (text ∷ texts) history = ⊥
AllActOn means under t (files ∷ told) (text ∷ texts) history =
    ActsOn under files t (means t text) (own t history) × AllActOn means under (suc t) told texts history

-- the scripts were run, each over a fork of the tree, which has taken in the counts of all forks
pub record RanTogether (tree : Option Files) (runs : Runs) (fuel : ℕ) (old new : Counts) (history : List Entry) (results : List Came) : Type 0 where
  pub counts : List Counts
  pub threads : AllRan tree 0 runs fuel history counts results
  pub absorbs : new ≡ fold absorbed old counts

-- the pairs of script t in a history: they are those of its meaning
-- on their replies, up to its End; at want of memory a part of those
pub data Acts (under : Setting) (t : ℕ) (run : Run) (mine : List (Event × Reply)) : Type 0 where
  whole : (outcome : Outcome) → Follows under.files t run under.fuel mine outcome → Acts under t run mine
  part : under.status ≡ want_of_memory
      → Broken (Some under.files) t run under.fuel mine under.old_faults under.new_faults → Acts under t run mine

-- so for scripts of these texts, of which the first has the number t
abbrev pub AllAct : Means → Setting → ℕ → List (List ℕ) → List Entry → Type 0
AllAct means under t [] history = Unit {0}
AllAct means under t (text ∷ texts) history =
    Acts under t (means t text) (own t history) × AllAct means under (suc t) texts history
