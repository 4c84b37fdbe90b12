-- How the programs of a round ran, each in a thread of its own.
use Rattle.std.specs.Prelude.{◌≡◌, ◌≤◌, ℕ, zero, suc, ◌+◌, List, [], ◌∷◌, fold, length, Option, Some, Result, IfOk, OnOk, OnErr}
use Rattle.std.specs.List.{All}
use Rattle.base_types.specs.declared.no_memory.NoMemory.{NoMemory}
use Rattle.tree_files.specs.Count.{Rose, raised}
use Rattle.tree_files.specs.Files.{Files}
use Rattle.machine_events.specs.declared.event.Event.{Event}
use Rattle.machine_events.specs.declared.event.Reply.{Reply}
use Rattle.machine_events.specs.declared.event.Entry.{Entry}
use Rattle.machine_spec.specs.Legal.{IsLegal}
use Rattle.machine_shown.specs.Own.{own, Ready}
use Rattle.machine_book.specs.Bound.{BoundTo}
use Rattle.machine_desk.specs.Outgo.{Outgo, Pieces}
use Rattle.meaning_runs.specs.Runs.{Run}
use Rattle.meaning_runs.specs.Follows.{Follows}
use Rattle.meaning_runs.specs.Lists.{lists_in, ends_in}
use Rattle.drive_account.specs.Ending.{IsMeant, Broken, IsRead, outcome}
use Rattle.trace_book.specs.Views.{base_of}
use Rattle.trace_book.specs.Rule.{Written}
use Rattle.drive_account.specs.declared.end.Ending.{Ending}

-- the events of a thread with their replies, and what came of threads
abbrev pub Pairs : Type 0
Pairs = List (Event × Reply)

-- for each thread how its script ended, or that memory was wanting
abbrev pub Results : Type 0
Results = List (Result Ending NoMemory)

-- what a tree has counted: its failed calls, and its lists of directories
pub record Counts : Type 0 where
  pub faults : ℕ
  pub lists : ℕ

-- those of a tree
abbrev pub counted : {T : Type 0} → (T → ℕ) → (T → ℕ) → T → Counts
counted faults lists tree = record { faults = faults tree; lists = lists tree }

-- a fork begins with none
abbrev pub no_counts : Counts
no_counts = record { faults = 0; lists = 0 }

-- the counts of a tree that took in those of a fork
abbrev pub absorbed : Counts → Counts → Counts
absorbed old fork = record { faults = raised old.faults fork.faults; lists = raised old.lists fork.lists }

-- a tree tells these files, and has counted nothing
abbrev pub IsNewTree : {T : Type 0} → (T → Option Files) → (T → ℕ) → (T → ℕ) → Option Files → T → Type 0
IsNewTree files faults lists told tree = (files tree ≡ told) × (faults tree ≡ 0) × (lists tree ≡ 0)

-- trees tell the same files, and have counted nothing
pub record AreNewTrees {T : Type 0} (files : T → Option Files) (faults lists : T → ℕ) (trees : List T) : Type 0 where
  pub told : Option Files
  pub all : All (IsNewTree files faults lists told) trees

-- thread t ran over this tree with this fuel, which made these pairs of it: with an
-- ending they are those of its meaning up to its End, whatever the tree tells, and `Read` comes where a
-- call of the tree failed, any other where none did; at want of memory they are a part of those, with no End
pub record Ran (tree : Option Files) (t : ℕ) (run : Run) (fuel : ℕ) (old new : Counts) (mine : Pairs)
    (result : Result Ending NoMemory) : Type 0 where
  pub faults : old.faults ≤ new.faults
  pub lists : OnOk result (new.lists ≤ old.lists + lists_in mine)
  pub goes_on : OnErr result (ends_in mine ≡ 0)
  pub meant : IfOk result (λ ending. IsMeant tree t run fuel mine (outcome ending))
  pub follows : (files : Files) → tree ≡ Some files → IfOk result (λ e. Follows files t run fuel mine (outcome e))
  pub part : OnErr result (Broken tree t run fuel mine old.faults new.faults)
  pub read : IfOk result (λ ending. IsRead ending → Rose old.faults new.faults)
  pub unfailed : IfOk result (λ ending. (IsRead ending → ⊥) → new.faults ≡ old.faults)

-- the same of a tree that changed
abbrev pub RanOver : {T : Type 0} → (T → Option Files) → (T → ℕ) → (T → ℕ) → T → T → ℕ → Run → ℕ → Pairs
    → Result Ending NoMemory → Type 0
RanOver files faults lists old new t run fuel mine result =
    Ran (files old) t run fuel (counted faults lists old) (counted faults lists new) mine result

-- what threads mean, each by its number
abbrev pub Runs : Type 0
Runs = List (ℕ → Run)

-- threads from number t on have run in this history, each over a fork of its own
abbrev pub AllRan : Option Files → ℕ → Runs → ℕ → List Entry → List Counts → Results → Type 0
AllRan tree t [] fuel history [] [] = Unit {0}
AllRan tree t [] fuel history (new ∷ counts) results = ⊥
AllRan tree t [] fuel history [] (result ∷ results) = ⊥
AllRan tree t (run ∷ runs) fuel history [] results = ⊥
AllRan tree t (run ∷ runs) fuel history (new ∷ counts) [] = ⊥
AllRan tree t (run ∷ runs) fuel history (new ∷ counts) (result ∷ results) =
    Ran tree t (run t) fuel no_counts new (own t history) result × AllRan tree (suc t) runs fuel history counts results

-- n threads from this number on may begin: it is their turn, and they have made no event
abbrev pub MayBegin : {O : Type 0} → BoundTo O → ℕ → ℕ → Type 0
MayBegin book t zero = Unit {0}
MayBegin book t (suc n) = Ready book.opening.rounds book.history t × (own t book.history ≡ []) × MayBegin book (suc t) n

-- threads ran on a book, each over a tree of its own with these files, which then had counted this: the history, which
-- is legal, gained entries of these threads alone, the outlet kept up with them, and each thread has run
pub record ThreadsRan {O : Type 0} (piece : Pieces) (out : O → Outgo) (tree : Option Files) (from : ℕ) (runs : Runs)
    (fuel : ℕ) (before after : BoundTo O) (counts : List Counts) (results : Results) : Type 0 where
  pub written : Written piece out (base_of out (before, from, length runs)) after.history after
  pub legal : IsLegal after.opening after.history
  pub threads : AllRan tree from runs fuel after.history counts results

-- a round ran on a book: the history, which is legal, gained entries of
-- these threads alone, the outlet kept up with them, and each thread has run
pub record RoundRan {O : Type 0} (piece : Pieces) (out : O → Outgo) (tree : Option Files) (from : ℕ) (runs : Runs)
    (fuel : ℕ) (before after : BoundTo O) (old new : Counts) (results : Results) : Type 0 where
  pub written : Written piece out (base_of out (before, from, length runs)) after.history after
  pub legal : IsLegal after.opening after.history
  pub counts : List Counts
  pub threads : AllRan tree from runs fuel after.history counts results
  pub absorbs : new ≡ fold absorbed old counts

-- the same, over a tree that took in the counts of all forks
abbrev pub RoundOver : {O T : Type 0} → Pieces → (O → Outgo) → (T → Option Files) → (T → ℕ) → (T → ℕ) → T → T → ℕ → Runs
    → ℕ → BoundTo O → BoundTo O → Results → Type 0
RoundOver piece out files faults lists old new from runs fuel before after results =
    RoundRan piece out (files old) from runs fuel before after (counted faults lists old) (counted faults lists new) results
