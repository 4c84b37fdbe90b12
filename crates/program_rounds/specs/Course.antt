-- How far rounds of several scripts have come, one after another on one book.
use Rattle.std.specs.Prelude.{◌≡◌, ◌≤◌, ℕ, ◌+◌, suc, List, [], ◌∷◌, ◌++◌, length, take, Option, Result, IfSome}
use Rattle.base_types.specs.declared.no_memory.NoMemory.{NoMemory}
use Rattle.tree_files.specs.Files.{Files}
use Rattle.tree_files.specs.declared.edit.Edit.{Edit}
use Rattle.tree_overlay.specs.Kinds.{IsBelowRoot}
use Rattle.tree_overlay.specs.Told.{edited_told}
use Rattle.tree_overlay.specs.Rounds.{Absorbed, total}
use Rattle.words_rounds.specs.declared.rounds.Round.{Round}
use Rattle.machine_events.specs.declared.event.Entry.{Entry}
use Rattle.machine_spec.specs.declared.state.State.{State}
use Rattle.machine_book.specs.Bound.{BoundTo}
use Rattle.machine_desk.specs.Outgo.{Outgo, Pieces, Kept}
use Rattle.machine_shown.specs.Own.{own}
use Rattle.meaning_runs.specs.Runs.{Run}
use Rattle.drive_account.specs.declared.end.Ending.{Ending}
use Rattle.drive_round.specs.Ran.{Counts, no_counts, Ran, Results, Runs, MayBegin, ThreadsRan}
use Rattle.drive_round.specs.Played.{NoneBegan}
use Rattle.program_run.specs.Alone.{Means}
use Rattle.program_run.specs.Results.{AreWhole}
use Rattle.program_rounds.specs.Rounds.{scripts_of, told_in}
use Rattle.program_rounds.specs.Opened.{files_after}
use Rattle.program_rounds.specs.Runs.{meanings}

-- threads from number t on have run in this history, each over a tree with these files that had counted nothing, and
-- then this
pub data EachRan (fuel : ℕ) (history : List Entry) : ℕ → List (Option Files) → Runs → List Counts → Results
    → Type 0 where
  none : (t : ℕ) → EachRan fuel history t [] [] [] []
  more : (t : ℕ) (tree : Option Files) (trees : List (Option Files)) (run : ℕ → Run) (runs : Runs) (new : Counts)
      (counts : List Counts)
      (came : Result Ending NoMemory) (results : Results)
      → Ran tree t (run t) fuel no_counts new (own t history) came
      → EachRan fuel history (suc t) trees runs counts results
      → EachRan fuel history t (tree ∷ trees) (run ∷ runs) (new ∷ counts) (came ∷ results)

-- from these counts of a tree to those it took in what others counted
pub record TookIn (old new : Counts) (counts : List Counts) : Type 0 where
  pub faults : Absorbed old.faults (total (λ c. c.faults) counts) new.faults
  pub lists : new.lists ≤ old.lists + total (λ c. c.lists) counts

-- one round ran on a book, over forks with these files, and the tree took in what they counted
pub record RoundRanOver {O : Type 0} (piece : Pieces) (out : O → Outgo) (tree : Option Files) (from : ℕ)
    (runs : Runs) (fuel : ℕ)
    (before after : BoundTo O) (old new : Counts) (results : Results) : Type 0 where
  pub counts : List Counts
  pub ran : ThreadsRan piece out tree from runs fuel before after counts results
  pub took : TookIn old new counts

-- what rounds run under: what the tree tells and had counted, the fuel and the texts of
-- all scripts, and what the machine and the outlet were before the first event
pub record Under : Type 0 where
  pub tree : Option Files
  pub old : Counts
  pub fuel : ℕ
  pub texts : List (List ℕ)
  pub opened : State
  pub start : Outgo

-- a tree with this told, and this fuel and these texts; and what they were before the first event
abbrev pub under_by : Option Files → ℕ → List (List ℕ) → Counts → State → Outgo → Under
under_by tree fuel texts old opened start =
    record { tree = tree; old = old; fuel = fuel; texts = texts; opened = opened; start = start }

-- the texts of the scripts of the first rounds
abbrev pub texts_of : Under → List Round → List (List ℕ)
texts_of under rounds = take (length (scripts_of rounds)) under.texts

-- these rounds are over: each of their scripts has run, as far as memory was not wanted; of others there is no event.
-- With results, these are those of all scripts, each of which has ended, and the edits are those of all rounds
pub record HasCome {O V : Type 0} (piece : Pieces) (out : O → Outgo) (means : Means) (under : Under)
    (rounds : List Round)
    (new : Counts) (book : BoundTo O) (edits : List Edit) (results : Option V) (items : V → Results) : Type 0 where
  pub opening : book.opening ≡ under.opened
  pub kept : Kept piece under.start (out book.outlet) book.history
  pub later : NoneBegan (length (scripts_of rounds)) book.history
  pub counts : List Counts
  pub came : Results
  pub threads : EachRan under.fuel book.history 0 (told_in under.tree rounds)
      (meanings means (texts_of under rounds)) counts came
  pub took : TookIn under.old new counts
  pub whole : IfSome results (λ r. (items r ≡ came) × AreWhole came
      × (edited_told edits under.tree ≡ files_after under.tree rounds) × IsBelowRoot edits)

-- the next round may begin, where all scripts so far, of which there are so many, have ended
pub record MayGoOn {O : Type 0} (book : BoundTo O) (from : ℕ) (round : Round) (texts : List (List ℕ)) : Type 0 where
  pub some : 1 ≤ length round.scripts
  pub fits : from + length round.scripts ≤ length texts
  pub few : length texts ≤ 16
  pub may : MayBegin book from (length round.scripts)

-- what rounds leave of their scripts: each has run, as far as memory was not wanted.
-- With results, these are those of all scripts, each of which has ended
pub record HasLeft {V : Type 0} (means : Means) (tree : Option Files) (fuel : ℕ) (rounds : List Round)
    (texts : List (List ℕ))
    (old new : Counts) (history : List Entry) (results : Option V) (items : V → Results) : Type 0 where
  pub counts : List Counts
  pub came : Results
  pub threads : EachRan fuel history 0 (told_in tree rounds) (meanings means texts) counts came
  pub took : TookIn old new counts
  pub whole : IfSome results (λ r. (items r ≡ came) × AreWhole came)
