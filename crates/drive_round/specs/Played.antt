-- How the programs of rounds of one thread each were played, one after another, on one book.
use Rattle.std.specs.Prelude.{◌≡◌, ◌≤◌, ℕ, ◌+◌, List, [], ◌∷◌, Option, Result, Err, OnErr}
use Rattle.base_types.specs.declared.no_memory.NoMemory.{NoMemory}
use Rattle.tree_files.specs.Files.{Files}
use Rattle.machine_events.specs.declared.event.Entry.{Entry}
use Rattle.machine_shown.specs.Own.{own}
use Rattle.machine_book.specs.Bound.{BoundTo}
use Rattle.machine_desk.specs.Histories.{Begins, OnlyOf}
use Rattle.machine_desk.specs.Outgo.{Outgo, Pieces, Kept}
use Rattle.meaning_runs.specs.Runs.{Run}
use Rattle.drive_account.specs.declared.end.Ending.{Ending}
use Rattle.drive_round.specs.Ran.{RanOver, Results, Runs}

-- a book went on with entries of one thread alone, and its outlet kept up with them
pub record GoesOn {O : Type 0} (piece : Pieces) (out : O → Outgo) (t : ℕ) (before after : BoundTo O) : Type 0 where
  pub opening : after.opening ≡ before.opening
  pub gained : Begins before.history after.history
  pub only : OnlyOf t gained.rest
  pub kept : Kept piece (out before.outlet) (out after.outlet) gained.rest

-- no thread from this number on has made an event
abbrev pub NoneBegan : ℕ → List Entry → Type 0
NoneBegan t history = (u : ℕ) → t ≤ u → own u history ≡ []

-- nothing has come of any of these threads so far
abbrev pub AreShort : Results → Type 0
AreShort [] = Unit {0}
AreShort (Err e ∷ results) = AreShort results
AreShort (result ∷ results) = ⊥

-- threads from number t on, each over a tree of its own, from what the trees were to what they are then: each has run;
-- where memory was wanted no later one has begun
pub data AllPlayed {T : Type 0} (files : T → Option Files) (faults lists : T → ℕ) (fuel : ℕ) (history : List Entry)
    : ℕ → Runs → List T → List T → Results → Type 0 where
  none : (t : ℕ) → AllPlayed files faults lists fuel history t [] [] [] []
  more : (t : ℕ) (run : ℕ → Run) (runs : Runs) (old new : T) (olds news : List T) (came : Result Ending NoMemory) (results : Results)
      → RanOver files faults lists old new t (run t) fuel (own t history) came
      → files new ≡ files old
      → OnErr came (NoneBegan (t + 1) history)
      → AllPlayed files faults lists fuel history (t + 1) runs olds news results
      → AllPlayed files faults lists fuel history t (run ∷ runs) (old ∷ olds) (new ∷ news) (came ∷ results)
