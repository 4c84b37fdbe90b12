-- The one history of rounds of one thread each.
use Rattle.std.specs.Prelude.{◌≡◌, ℕ, ◌+◌, List, [], ◌∷◌, ◌++◌, map, Option, Some, None, Ok, Err}
use Rattle.tree_files.specs.Files.{Files}
use Rattle.tree_files.specs.Count.{Rose}
use Rattle.machine_events.specs.declared.event.Entry.{Entry}
use Rattle.machine_spec.specs.declared.state.State.{State}
use Rattle.machine_shown.specs.Shown.{shown_first}
use Rattle.meaning_runs.specs.Runs.{Run, Safe}
use Rattle.meaning_solo.specs.Made.{Turn}
use Rattle.meaning_solo.specs.Solo.{IsSolo}
use Rattle.drive_round.specs.Ran.{Results, Runs}

-- what threads mean that have the numbers from t on
abbrev pub means_of : ℕ → Runs → List Run
means_of t [] = []
means_of t (run ∷ runs) = run t ∷ means_of (t + 1) runs

-- the turns of these threads over these files, from thread t on
pub record AreTurns (trees : List Files) (t : ℕ) (runs : Runs) (turns : List Turn) : Type 0 where
  pub trees_are : map (λ turn. turn.files) turns ≡ trees
  pub means_are : map (λ turn. turn.run) turns ≡ means_of t runs

-- a stop has a cause: a count of faults rose
abbrev pub HasCause : Option ℕ → ℕ → ℕ → Type 0
HasCause None old new = Unit {0}
HasCause (Some k) old new = Rose old new

-- each stop has one
abbrev pub HaveCauses : List Turn → ℕ → ℕ → Type 0
HaveCauses [] old new = Unit {0}
HaveCauses (turn ∷ turns) old new = HasCause turn.stop old new × HaveCauses turns old new

-- each thread came to its end
abbrev pub HaveEnded : Results → Type 0
HaveEnded [] = Unit {0}
HaveEnded (Ok ending ∷ results) = HaveEnded results
HaveEnded (Err e ∷ results) = ⊥

-- the threads' own events show all that they ask for
abbrev pub AreSafe : Runs → Type 0
AreSafe [] = Unit {0}
AreSafe (run ∷ runs) = ((t : ℕ) → Safe (shown_first t) (run t)) × AreSafe runs

-- where the count of one of the trees rose, that from `old` to `new` rose
abbrev pub Rises : {T : Type 0} → (T → ℕ) → List T → List T → ℕ → ℕ → Type 0
Rises faults [] news old new = Unit {0}
Rises faults (a ∷ olds) [] old new = Unit {0}
Rises faults (a ∷ olds) (b ∷ news) old new = (Rose (faults a) (faults b) → Rose old new) × Rises faults olds news old new

-- a history is the one that these threads have over these files, with stops only where the count of faults rose
-- from `old` to `new`; where one wanted memory it begins such a one
pub data IsRun (trees : List Files) (runs : Runs) (fuel : ℕ) (opened : State) (history : List Entry) (results : Results) (old new : ℕ)
    : Type 0 where
  whole : (turns : List Turn) → AreTurns trees 0 runs turns → HaveCauses turns old new → HaveEnded results
      → IsSolo opened turns fuel history → IsRun trees runs fuel opened history results old new
  part : (turns : List Turn) (rest : List Entry) → AreTurns trees 0 runs turns → HaveCauses turns old new
      → (HaveEnded results → ⊥) → IsSolo opened turns fuel (history ++ rest)
      → IsRun trees runs fuel opened history results old new
