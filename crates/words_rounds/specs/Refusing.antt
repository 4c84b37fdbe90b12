-- The line at which a rounds file is refused: the first at which no rounds file goes on. That is one
-- more than the last line where only a line is missing, and a last line without LF is such a line.
use Rattle.std.specs.Prelude.{◌≡◌, ◌⊎◌, ℕ, ◌+◌, List, [], ◌∷◌, ◌++◌, length, true, Result, Ok, Err}
use Rattle.std.specs.List.{list_all}
use Rattle.words_rounds.specs.declared.rounds.Round.{Round}
use Rattle.words_rounds.specs.declared.rounds.Rounds.{Rounds}
use Rattle.words_rounds.specs.declared.rounds.RoundsError.{RoundsError}
use Rattle.words_rounds.specs.declared.rounds.RoundsError.TheVariants as error
use Rattle.words_rounds.specs.Grammar.{IsFile, in_line}

-- lines, each with its LF
abbrev pub joined_lines : List (List ℕ) → List ℕ
joined_lines [] = []
joined_lines (line ∷ lines) = line ++ 10 ∷ joined_lines lines

-- some rounds file begins so
pub record Begins (front : List ℕ) : Type 0 where
  pub rounds : List Round
  pub more : List ℕ
  pub is : IsFile rounds (front ++ more)

-- no rounds file goes on with the line that stands first here: it has no LF, or none begins so
abbrev pub StopsAt : List ℕ → List ℕ → Type 0
StopsAt front rest = (in_line rest ≡ true) ⊎ ((line : List ℕ) × (more : List ℕ) × (in_line line ≡ true) × (rest ≡ line ++ 10 ∷ more) × (Begins (front ++ (line ++ 10 ∷ [])) → ⊥))

-- the n-th line, counted from 1, is the first at which no rounds file goes on
pub record IsRefusedAt (n : ℕ) (bytes : List ℕ) : Type 0 where
  -- the lines before, and what stands behind them
  pub before : List (List ℕ)
  pub rest : List ℕ
  pub are_lines : list_all in_line before ≡ true
  pub number : n ≡ length before + 1
  pub whole : bytes ≡ joined_lines before ++ rest
  pub begins : Begins (joined_lines before)
  pub stops : StopsAt (joined_lines before) rest
  -- and the bytes are no rounds file
  pub none : (rounds : List Round) → IsFile rounds bytes → ⊥

-- what the answer of `read_rounds` says of the bytes
abbrev pub Says : List ℕ → Result Rounds RoundsError → Type 0
Says bytes (Ok rounds) = IsFile rounds.list bytes
Says bytes (Err (error.At line)) = IsRefusedAt line bytes
Says bytes (Err error.NoMemory) = Unit {0}
