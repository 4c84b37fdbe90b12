-- What holds of the reader of scripts, in terms of the grammar.
use Rattle.std.specs.Prelude.{◌≡◌, ℕ, List, [], Err}
use Rattle.source_combinators.specs.declared.fault.Fault.{Fault}
use Rattle.source_combinators.specs.Reading.{given}
use Rattle.source_combinators.specs.Refusals.{IsFront, IsFirstRefused}
use Rattle.py_syntax.specs.declared.lexeme.Lexeme.{Lexeme}
use Rattle.py_syntax.specs.declared.stmt.Script.{Script}
use Rattle.py_syntax.specs.Grammar.{Spells}
use Rattle.source_spec_statements.specs.Reading.{script}

-- what is read is spelled
abbrev pub ReadIsSpelled : Type 0
ReadIsSpelled = (room : ℕ) (ts rest : List Lexeme) (s : Script) → script room ts ≡ given s rest → IsFront Spells room ts s rest

-- what is spelled is read
abbrev pub SpelledIsRead : Type 0
SpelledIsRead = (room : ℕ) (ts : List Lexeme) (s : Script) → Spells room ts s → script room ts ≡ given s []

-- The refused token is the first one that no script has after those before it,
-- and it is too deep exactly where with more levels some script has it there.
abbrev pub RefusedIsFirst : Type 0
RefusedIsFirst = (room : ℕ) (ts : List Lexeme) (fault : Fault) → script room ts ≡ Err fault → IsFirstRefused Spells room ts fault

-- tokens spell one script at most
abbrev pub OneScript : Type 0
OneScript = (room : ℕ) (ts : List Lexeme) (a b : Script) → Spells room ts a → Spells room ts b → a ≡ b
