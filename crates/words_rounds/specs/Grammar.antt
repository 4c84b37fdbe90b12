-- The grammar of rounds files. The format is this project's own:
--
--   file   := "pyimport-rounds 1" LF round { round }
--   round  := "round" LF { edit LF } script { script }
--   script := "script " PATH LF
--   edit   := "file " PATH " " TEXT | "dir " PATH " " TIME | "remove " PATH
use Rattle.std.specs.Prelude.{◌≡◌, ◌≤◌, ℕ, ◌+◌, List, [], ◌∷◌, ◌++◌, length, codes, Bool, true, not, ◌==◌, Some}
use Rattle.std.specs.List.{list_all}
use Rattle.std.specs.Str.{IsUtf8}
use Rattle.base_types.specs.Path.{Path, Spells}
use Rattle.base_spelling.specs.Numbers.{number_in}
use Rattle.base_spelling.specs.Read.{source_in}
use Rattle.tree_files.specs.declared.edit.Edit.{Edit}
use Rattle.tree_files.specs.declared.edit.Edit.TheVariants as edits
use Rattle.words_rounds.specs.Lines.{has_no_blank}
use Rattle.words_rounds.specs.Spelling.{first_line}
use Rattle.words_rounds.specs.declared.rounds.Round.{Round}

-- no LF (10)
abbrev pub in_line : List ℕ → Bool
in_line text = list_all (λ b. not (b == 10)) text

-- PATH: a text that names a tree path of at least one part, without a blank and without an LF
pub record IsPlace (name : List ℕ) (path : Path) : Type 0 where
  pub text : IsUtf8 name
  pub names : Spells name path
  pub some : 1 ≤ length path
  pub blank : has_no_blank name ≡ true
  pub line : in_line name ≡ true

-- TEXT is a source as in traces, and TIME a number below 2 ^ 64
abbrev pub IsEdit : Edit → List ℕ → Type 0
IsEdit (edits.File path bytes) line = (name : List ℕ) × (text : List ℕ) × IsPlace name path × (source_in text ≡ Some bytes) × (line ≡ codes "file " ++ (name ++ 32 ∷ text))
IsEdit (edits.Dir path time) line = (name : List ℕ) × (text : List ℕ) × IsPlace name path × (number_in text ≡ Some time) × (line ≡ codes "dir " ++ (name ++ 32 ∷ text))
IsEdit (edits.Remove path) line = (name : List ℕ) × IsPlace name path × (line ≡ codes "remove " ++ name)

-- script := "script " PATH; the round has the text of PATH itself
abbrev pub IsScript : List ℕ → List ℕ → Type 0
IsScript script line = (path : Path) × IsPlace script path × (line ≡ codes "script " ++ script)

-- the items in order, each on a line of its own
abbrev pub OnLines : {X : Type 0} → (X → List ℕ → Type 0) → List X → List ℕ → Type 0
OnLines IsLine [] text = text ≡ []
OnLines IsLine (x ∷ xs) text = (line : List ℕ) × (rest : List ℕ) × IsLine x line × OnLines IsLine xs rest × (text ≡ line ++ 10 ∷ rest)

-- round := "round" LF { edit LF } script { script }: at least one script, and the edits before all of them
pub record IsRound (round : Round) (text : List ℕ) : Type 0 where
  pub edits : List ℕ
  pub scripts : List ℕ
  pub are_edits : OnLines IsEdit round.edits edits
  pub are_scripts : OnLines IsScript round.scripts scripts
  pub some : 1 ≤ length round.scripts
  pub whole : text ≡ codes "round" ++ 10 ∷ (edits ++ scripts)

-- the rounds in order, with nothing between them or behind the last
abbrev pub AreRounds : List Round → List ℕ → Type 0
AreRounds [] text = text ≡ []
AreRounds (round ∷ rounds) text = (first : List ℕ) × (rest : List ℕ) × IsRound round first × AreRounds rounds rest × (text ≡ first ++ rest)

-- how many script lines stand in the rounds
abbrev pub scripts_in : List Round → ℕ
scripts_in [] = 0
scripts_in (round ∷ rounds) = length round.scripts + scripts_in rounds

-- the bytes spell the rounds: at least one, and at most 16 script lines in all
pub record IsFile (rounds : List Round) (bytes : List ℕ) : Type 0 where
  pub text : List ℕ
  pub are_rounds : AreRounds rounds text
  pub some : 1 ≤ length rounds
  pub few : scripts_in rounds ≤ 16
  pub whole : bytes ≡ first_line ++ 10 ∷ text
