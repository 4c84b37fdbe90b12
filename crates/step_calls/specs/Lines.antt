-- The line of `print`, text by text.
use Rattle.std.specs.Prelude.{ℕ, List, [], ◌∷◌, ◌++◌, Result, Ok, Err}
use Rattle.py_value.specs.declared.operator.Applied.{Applied}
use Rattle.py_value.specs.declared.operator.Applied.TheVariants as applied
use Rattle.py_value.specs.declared.value.Raised.{Raised as Error}
use Rattle.py_value.specs.declared.value.Value.{Value}
use Rattle.value_texts.specs.Texts.{str_of}
use Rattle.meaning_state.specs.declared.flow.Leave.TheVariants.{Raised}
use Rattle.meaning_state.specs.declared.flow.Flow.TheVariants.{Left}
use Rattle.meaning_script.specs.Pieces.{Piece}
use Rattle.meaning_script.specs.Calls.{text_of, writes}

-- goes on with a text, and stops at an error
abbrev pub behind : Applied → (List ℕ → Result (List ℕ) Error) → Result (List ℕ) Error
behind (applied.Value v) go = go (text_of v)
behind (applied.Raised error) go = Err error

-- the line with the strs of more values, each behind a blank, or the first error
abbrev pub continued : List ℕ → List Value → Result (List ℕ) Error
continued line [] = Ok line
continued line (v ∷ vs) = behind (str_of v) (λ text. continued (line ++ 32 ∷ text) vs)

-- the line end comes behind the last text; an error stays as it is
abbrev pub ended : Result (List ℕ) Error → Result (List ℕ) Error
ended (Ok line) = Ok (line ++ 10 ∷ [])
ended (Err error) = Err error

-- the line of these values, or the first error
abbrev pub printed : List Value → Result (List ℕ) Error
printed [] = Ok (10 ∷ [])
printed (v ∷ vs) = ended (behind (str_of v) (λ text. continued text vs))

-- a line is printed; where a text raised an error, that goes on and nothing is printed
abbrev pub writes_or_fails : Result (List ℕ) Error → Piece
writes_or_fails (Ok line) = writes line
writes_or_fails (Err error) = λ s k. k (Left (Raised error)) s
