-- What a rounds file and the scripts of its rounds name in a tree.
use Rattle.std.specs.Prelude.{◌≡◌, ℕ, List, [], ◌∷◌, ◌++◌, codes, Option, Some, None}
use Rattle.std.specs.Fmt.{decimal}
use Rattle.tree_files.specs.Files.{Files}
use Rattle.tree_files.specs.Count.{Rose}
use Rattle.tree_overlay.specs.Told.{edited_told}
use Rattle.words_rounds.specs.Grammar.{IsFile}
use Rattle.words_rounds.specs.Refusing.{IsRefusedAt}
use Rattle.words_rounds.specs.declared.rounds.Round.{Round}
use Rattle.import_words.specs.Words.{Word}
use Rattle.program_run.specs.Scripts.{Opens, EachOpens, IsRefused}
use Rattle.program_run.specs.declared.open.Opened.{Opened}
use Rattle.program_run.specs.declared.open.Opened.TheVariants as opened
use Rattle.program_run.specs.declared.open.Unopened.{Unopened}
use Rattle.program_run.specs.declared.open.Unopened.TheVariants as why

-- why a rounds file is not read
abbrev pub refusal_of : Word → Opened → Option (List ℕ)
refusal_of file opened.Missing = Some (codes "pyimport: cannot open rounds '" ++ file ++ codes "'" ++ 10 ∷ [])
refusal_of file opened.TooLong = Some (codes "pyimport: rounds '" ++ file ++ codes "' is too long" ++ 10 ∷ [])
refusal_of file (opened.Text bytes) = None

-- the line about the first line at which no rounds file goes on
abbrev pub line_refused : Word → ℕ → List ℕ
line_refused file line = codes "pyimport: rounds '" ++
    (file ++ (codes "' line " ++ (decimal line ++ codes " is refused\n")))

-- the word names a file, and its bytes spell these rounds
pub record HasRounds (tree : Option Files) (file : Word) (rounds : List Round) : Type 0 where
  pub bytes : List ℕ
  pub opens : Opens tree file (opened.Text bytes)
  pub spells : IsFile rounds bytes

-- it names no file at a tree path, or one that is too long or spells no rounds, and this is the line about it
pub data HasNoRounds (tree : Option Files) (file : Word) (line : List ℕ) : Type 0 where
  unopened : (it : Opened) → Opens tree file it → refusal_of file it ≡ Some line → HasNoRounds tree file line
  unspelled : (bytes : List ℕ) (n : ℕ) → Opens tree file (opened.Text bytes) → IsRefusedAt n bytes
      → line ≡ line_refused file n → HasNoRounds tree file line

-- why there are no rounds, from one count of failed calls to a later one
abbrev pub WantsRounds : Option Files → Word → ℕ → ℕ → Unopened → Type 0
WantsRounds tree file old new (why.Refused line) = HasNoRounds tree file line.items
WantsRounds tree file old new why.Unread = Rose old new
WantsRounds tree file old new why.NoMemory = Unit {0}

-- the files after all edits of these rounds
abbrev pub files_after : Option Files → List Round → Option Files
files_after tree [] = tree
files_after tree (round ∷ rounds) = files_after (edited_told round.edits tree) rounds

-- each script of these rounds names a file with its text in the files of its own round
abbrev pub EachRoundOpens : Option Files → List Round → List (List ℕ) → Type 0
EachRoundOpens tree [] texts = texts ≡ []
EachRoundOpens tree (round ∷ rounds) texts = (here : List (List ℕ)) × (rest : List (List ℕ))
    × EachOpens (edited_told round.edits tree) round.scripts here
    × EachRoundOpens (edited_told round.edits tree) rounds rest
    × (texts ≡ here ++ rest)

-- the scripts of one round have texts in these files, which stand behind those that there were
pub record OpensRound (tree : Option Files) (scripts : List Word) (old new : List (List ℕ)) : Type 0 where
  pub here : List (List ℕ)
  pub joined : new ≡ old ++ here
  pub opened : EachOpens tree scripts here

-- scripts are opened round by round: in the rounds before this one each has a text
pub record ReachedRound (tree : Option Files) (rounds : List Round) (round : Round) : Type 0 where
  pub before : List Round
  pub behind : List Round
  pub whole : rounds ≡ before ++ round ∷ behind
  pub texts : List (List ℕ)
  pub opened : EachRoundOpens tree before texts

-- the files of the round that was reached
abbrev pub files_at : {tree : Option Files} {rounds : List Round} {round : Round} → ReachedRound tree rounds round
    → Option Files
files_at {tree} {rounds} {round} reached = edited_told round.edits (files_after tree reached.before)

-- the first script without a text, in its own round's files, is no file at a tree path, or too long: the line about it
pub record IsRefusedIn (tree : Option Files) (rounds : List Round) (line : List ℕ) : Type 0 where
  pub round : Round
  pub reached : ReachedRound tree rounds round
  pub refused : IsRefused (files_at reached) round.scripts line

-- why not all scripts of these rounds have a text
abbrev pub StopsIn : Option Files → List Round → ℕ → ℕ → Unopened → Type 0
StopsIn tree rounds old new (why.Refused line) = IsRefusedIn tree rounds line.items
StopsIn tree rounds old new why.Unread = Rose old new
StopsIn tree rounds old new why.NoMemory = Unit {0}
