-- The trees of rounds: before each round the tree is edited once more.
use Rattle.std.specs.Prelude.{◌≡◌, ◌≤◌, ℕ, ◌+◌, List, [], ◌∷◌, Option}
use Rattle.std.specs.List.{AllByRecursion}
use Rattle.tree_files.specs.Count.{raised}
use Rattle.tree_files.specs.Edits.{edited}
use Rattle.tree_files.specs.Files.{Files}
use Rattle.tree_files.specs.declared.edit.Edit.{Edit}
use Rattle.tree_overlay.specs.Kinds.{IsBelowRoot}
use Rattle.tree_overlay.specs.Told.{edited_told}

-- each edit of each round has a path of at least one part
abbrev pub AreBelowRoot : List (List Edit) → Type 0
AreBelowRoot rounds = AllByRecursion (λ edits. IsBelowRoot edits) rounds

-- for each round the files after all edits of all rounds up to it, in order
abbrev pub trees_of : Files → List (List Edit) → List Files
trees_of files [] = []
trees_of files (edits ∷ rounds) = edited files edits ∷ trees_of (edited files edits) rounds

-- the fork of each round tells what the tree tells after all edits of all rounds up to it, and has counted nothing
abbrev pub AreForks : {F : Type 0} → (F → Option Files) → (F → ℕ) → (F → ℕ) → Option Files → List (List Edit) → List F → Type 0
AreForks told faults lists tree [] [] = Unit {0}
AreForks told faults lists tree [] (fork ∷ forks) = ⊥
AreForks told faults lists tree (edits ∷ rounds) [] = ⊥
AreForks told faults lists tree (edits ∷ rounds) (fork ∷ forks) =
    (told fork ≡ edited_told edits tree) × (faults fork ≡ 0) × (lists fork ≡ 0) × AreForks told faults lists (edited_told edits tree) rounds forks

-- a count rose by at least so much, or stands at its end; where that is nothing, it did not rise
pub record Absorbed (old n new : ℕ) : Type 0 where
  pub least : raised old n ≤ new
  pub none : n ≡ 0 → new ≤ old

-- what these forks counted in all
abbrev pub total : {F : Type 0} → (F → ℕ) → List F → ℕ
total count [] = 0
total count (fork ∷ forks) = count fork + total count forks
