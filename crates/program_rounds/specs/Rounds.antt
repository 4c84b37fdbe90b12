-- What the rounds of a run say of its scripts.
use Rattle.std.specs.Prelude.{◌≡◌, ◌≤◌, ◌==◌, Bool, ℕ, List, [], ◌∷◌, ◌++◌, length, map, replicate, Option}
use Rattle.std.specs.List.{AllByRecursion}
use Rattle.tree_files.specs.Files.{Files}
use Rattle.tree_files.specs.Edits.{edited}
use Rattle.tree_files.specs.declared.edit.Edit.{Edit}
use Rattle.tree_overlay.specs.Kinds.{IsBelowRoot}
use Rattle.tree_overlay.specs.Told.{edited_told}
use Rattle.words_rounds.specs.declared.rounds.Round.{Round}
use Rattle.machine_spec.specs.declared.state.State.{State}
use Rattle.machine_spec.specs.Opening.{opening}
use Rattle.machine_laws.specs.Begun.{HaveScripts}
use Rattle.import_words.specs.Words.{Word}
use Rattle.import_words.specs.declared.plan.RunPlan.{RunPlan}

-- the scripts have one numbering over all rounds
abbrev pub scripts_of : List Round → List Word
scripts_of [] = []
scripts_of (round ∷ rounds) = round.scripts ++ scripts_of rounds

-- how many scripts each round has
abbrev pub sizes_of : List Round → List ℕ
sizes_of rounds = map (λ round. length round.scripts) rounds

-- what is edited before each round
abbrev pub edits_of : List Round → List (List Edit)
edits_of rounds = map (λ round. round.edits) rounds

-- whether a round has one script
abbrev pub is_single : Round → Bool
is_single round = length round.scripts == 1

-- each round has one script
abbrev pub AreSingle : List Round → Type 0
AreSingle rounds = AllByRecursion (λ round. length round.scripts ≡ 1) rounds

-- each edit's path has at least one part
abbrev pub AreBelowRoot : List Round → Type 0
AreBelowRoot rounds = AllByRecursion (λ round. IsBelowRoot round.edits) rounds

-- a run has 1 to 16 rounds of one script each
abbrev pub AreFew : List Round → Type 0
AreFew rounds = (1 ≤ length rounds) × (length rounds ≤ 16)

-- a run has 1 to 16 scripts in all, and at least one in each round
pub record CanRun (rounds : List Round) : Type 0 where
  pub some : 1 ≤ length (scripts_of rounds)
  pub few : length (scripts_of rounds) ≤ 16
  pub each : HaveScripts (sizes_of rounds)

-- for each script the files of its round: those after all edits of all rounds up to its own, in order
abbrev pub trees_of : Files → List Round → List Files
trees_of files [] = []
trees_of files (round ∷ rounds) =
    replicate (length round.scripts) (edited files round.edits) ++ trees_of (edited files round.edits) rounds

-- for each script what a tree tells after all edits of all rounds up to its own, in order
abbrev pub told_in : Option Files → List Round → List (Option Files)
told_in tree [] = []
told_in tree (round ∷ rounds) =
    replicate (length round.scripts) (edited_told round.edits tree) ++ told_in (edited_told round.edits tree) rounds

-- the state before the first event, from the plan, the rounds and the texts of the scripts
abbrev pub opening_in : RunPlan → List Round → List (List ℕ) → State
opening_in plan rounds texts = opening (scripts_of rounds) texts plan.path (sizes_of rounds)
