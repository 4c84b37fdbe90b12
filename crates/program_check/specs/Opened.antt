-- The scripts against which a trace is judged, and their rounds.
use Rattle.std.specs.Prelude.{◌≡◌, ◌≤◌, ℕ, List, [], ◌∷◌, length, Option, Some, None}
use Rattle.tree_files.specs.Files.{Files}
use Rattle.tree_files.specs.Count.{Rose}
use Rattle.words_rounds.specs.declared.rounds.Round.{Round}
use Rattle.import_words.specs.Words.{Word}
use Rattle.import_words.specs.declared.plan.RunPlan.{RunPlan}
use Rattle.program_run.specs.Scripts.{EachOpens, IsRefused}
use Rattle.program_run.specs.declared.open.Unopened.{Unopened}
use Rattle.program_run.specs.declared.open.Unopened.TheVariants as stops
use Rattle.program_rounds.specs.Opened.{HasRounds, HasNoRounds, EachRoundOpens, IsRefusedIn}
use Rattle.program_rounds.specs.Rounds.{AreBelowRoot, CanRun, scripts_of}
use Rattle.program_check.specs.Judge.{one_round}

-- the rounds of a plan, and the text of each script in the files of its own round
pub data Opens (tree : Option Files) (plan : RunPlan) : List Round → List (List ℕ) → Type 0 where
  plain : (texts : List (List ℕ)) → plan.rounds ≡ None → EachOpens tree plan.scripts texts
      → Opens tree plan (one_round plan) texts
  in_rounds : (file : Word) (rounds : List Round) (texts : List (List ℕ)) → plan.rounds ≡ Some file
      → HasRounds tree file rounds → EachRoundOpens tree rounds texts → Opens tree plan rounds texts

-- the rounds file is none, or spells no rounds; or a script is no file at a tree path, or too long, in the files of its
-- own round: the line about the first
pub data IsUnopened (tree : Option Files) (plan : RunPlan) (line : List ℕ) : Type 0 where
  plain : plan.rounds ≡ None → IsRefused tree plan.scripts line → IsUnopened tree plan line
  no_rounds : (file : Word) → plan.rounds ≡ Some file → HasNoRounds tree file line → IsUnopened tree plan line
  in_rounds : (file : Word) (rounds : List Round) → plan.rounds ≡ Some file → HasRounds tree file rounds
      → IsRefusedIn tree rounds line → IsUnopened tree plan line

-- why not all scripts have a text, from one count of failed calls to a later one
abbrev pub StopsFor : Option Files → RunPlan → ℕ → ℕ → Unopened → Type 0
StopsFor tree plan old new (stops.Refused line) = IsUnopened tree plan line.items
StopsFor tree plan old new stops.Unread = Rose old new
StopsFor tree plan old new stops.NoMemory = Unit {0}

-- rounds that can be run, and a text for each of their scripts
pub record Fit (rounds : List Round) (texts : List (List ℕ)) : Type 0 where
  pub can_run : CanRun rounds
  pub below : AreBelowRoot rounds
  pub many : length texts ≡ length (scripts_of rounds)
