-- What contracts see of the worker of a thread.
use Rattle.std.specs.Prelude.{◌≡◌, ℕ, zero, suc, ◌+◌, List, [], ◌∷◌, map, take, Option, Some, is_some, length, IsTrue, OnErr, Result, slice_get, true}
use Rattle.std.specs.List.{All, AllZip}
use Rattle.base_types.specs.declared.no_memory.NoMemory.{NoMemory}
use Rattle.tree_files.specs.Files.{Files}
use Rattle.machine_shown.specs.Own.{own}
use Rattle.machine_desk.specs.Sight.{IsReady, Continues}
use Rattle.meaning_runs.specs.Runs.{Run}
use Rattle.drive_account.specs.declared.end.Ending.{Ending}
use Rattle.trace_book.specs.Told.{TableId, Told, new_pass, sight_of, mine_of}
use Rattle.trace_book.specs.Views.{numbers_from}
use Rattle.trace_book.specs.declared.view.Base.{Base}
use Rattle.drive_round.specs.Ran.{Results, Counts, counted, no_counts, Ran, Runs, AllRan}
use Rattle.drive_round.specs.declared.worker.Worker.{Worker}

-- its pass, its number, what it means, its tree, and what came of it so far
pub record Facts : Type 0 where
  pub pass : Option Told
  pub number : ℕ
  pub run : Run
  pub files : Option Files
  pub counts : Counts
  pub ran : Result Ending NoMemory

-- those of a worker, by what its program means under its number and by what its tree tells
abbrev pub facts : {T P : Type 0} → (P → ℕ → Run) → (T → Option Files) → (T → ℕ) → (T → ℕ) → Worker T P → Facts
facts run files faults lists w = record {
  pass = w.pass;
  number = w.script;
  run = run w.program w.script;
  files = files w.tree;
  counts = counted faults lists w.tree;
  ran = w.ran;
}

-- it may begin: its pass, of this shared book and its number, has made no event, and it is its turn
pub record IsNew (table : TableId) (w : Facts) : Type 0 where
  pub pass : Told
  pub is : w.pass ≡ Some pass
  pub of_table : pass.table ≡ table
  pub number : pass.number ≡ w.number
  pub ready : IsReady (sight_of pass)
  pub first : mine_of pass ≡ []

-- it ran: its pass went on, and knows that the shared book is stopped where memory was wanted;
-- the number, the meaning and the files are as they were
pub record HasWorked (fuel : ℕ) (old new : Facts) : Type 0 where
  pub before : Told
  pub was : old.pass ≡ Some before
  pub after : Told
  pub is : new.pass ≡ Some after
  pub continues : Continues (sight_of before) (sight_of after)
  pub stopped : OnErr new.ran (after.stopped ≡ true)
  pub number : new.number ≡ old.number
  pub run : new.run ≡ old.run
  pub files : new.files ≡ old.files
  pub ran : Ran old.files old.number old.run fuel old.counts new.counts (mine_of after) new.ran

-- the same, of a worker before its run and after
abbrev pub Works : {W : Type 0} → ℕ → (W → Facts) → W → W → Type 0
Works fuel seen old new = HasWorked fuel (seen old) (seen new)

-- each of these workers may begin at the shared book
abbrev pub AllNew : {W : Type 0} → TableId → (W → Facts) → List W → Type 0
AllNew table seen ws = All (λ w. IsNew table (seen w)) ws

-- each of these workers ran, and they are in the same order
abbrev pub AllWork : {W : Type 0} → ℕ → (W → Facts) → List W → List W → Type 0
AllWork fuel seen olds news = AllZip (Works fuel seen) olds news

-- P holds of each element and its place, counted from the last: there are n in all, and the first has the place n - 1
abbrev pub Descends : {W : Type 0} → (ℕ → W → Type 0) → ℕ → List W → Type 0
Descends P n [] = Unit {0}
Descends P zero (w ∷ ws) = ⊥
Descends P (suc n) (w ∷ ws) = P n w × Descends P n ws

-- the worker of a place has what stands there in these lists
pub record IsSeated {T P : Type 0} (passes : List Told) (programs : List P) (forks : List T) (from k : ℕ)
    (w : Worker T P) : Type 0 where
  pub numbered : w.script ≡ from + k
  pub passes_at : slice_get passes k ≡ w.pass
  pub is_some : IsTrue (is_some w.pass)
  pub programs_at : slice_get programs k ≡ Some w.program
  pub forks_at : slice_get forks k ≡ Some w.tree

-- the last thread's worker stands first; there are as many places as passes
abbrev pub AllSeated : {T P : Type 0} → List Told → List P → List T → ℕ → List (Worker T P) → Type 0
AllSeated passes programs forks from ws = Descends (IsSeated passes programs forks from) (length passes) ws

-- the worker of a place, before it runs
pub record SeatedAt (table : TableId) (base : Base) (files : Option Files) (from : ℕ) (runs : Runs) (k : ℕ)
    (w : Facts) : Type 0 where
  pub pass : w.pass ≡ Some (new_pass table base (from + k))
  pub number : w.number ≡ from + k
  pub means : ℕ → Run
  pub place : slice_get runs k ≡ Some means
  pub run : w.run ≡ means (from + k)
  pub files_are : w.files ≡ files
  pub counts : w.counts ≡ no_counts

-- and after
pub record RanAt (table : TableId) (base : Base) (files : Option Files) (from : ℕ) (runs : Runs) (fuel k : ℕ)
    (w : Facts) : Type 0 where
  pub told : Told
  pub pass : w.pass ≡ Some told
  pub of_table : told.table ≡ table
  pub of_base : told.base ≡ base
  pub number : told.number ≡ from + k
  pub numbers : told.numbers ≡ (from + k) ∷ []
  pub means : ℕ → Run
  pub place : slice_get runs k ≡ Some means
  pub ran : Ran files (from + k) (means (from + k)) fuel no_counts w.counts (own (from + k) told.seen) w.ran

-- the first n workers were gathered: the pass speaks for their numbers, and each of them has run in what it has seen
pub record Gathered (table : TableId) (base : Base) (files : Option Files) (from : ℕ) (runs : Runs) (fuel n : ℕ)
    (pass : Told) (counts : List Counts) (results : Results) : Type 0 where
  pub of_table : pass.table ≡ table
  pub of_base : pass.base ≡ base
  pub numbers : pass.numbers ≡ numbers_from from n
  pub threads : AllRan files from (take n runs) fuel pass.seen counts results

-- the workers of a round, the last thread first, are gathered to what they are of it, whatever that is
abbrev pub Gathers : {W T : Type 0} → TableId → (W → Facts) → (T → Counts) → List W → Told → List T → Results → Type 0
Gathers table seen tally ws pass trees results =
    (base : Base) (files : Option Files) (from : ℕ) (runs : Runs) (fuel : ℕ)
    → Descends (λ k w. RanAt table base files from runs fuel k (seen w)) (length ws) ws
    → Gathered table base files from runs fuel (length ws) pass (map tally trees) results
