-- What stands between items.
use Rattle.std.specs.Prelude.{ℕ, zero, suc, ◌==◌, if◌then◌else◌, List, [], ◌∷◌, ◌++◌}
use Rattle.py_syntax.specs.declared.lexeme.Lexeme.{Lexeme}
use Rattle.py_syntax.specs.declared.lexeme.Lexeme.TheVariants as token
use Rattle.source_print.specs.Statements.{names_with}

-- what stands before the n-th item, from 0
abbrev pub before : Lexeme → ℕ → List Lexeme
before sep zero = []
before sep (suc n) = sep ∷ []

-- a tuple of one item has a comma behind it (Language Reference 6.2.3)
abbrev pub last_comma : ℕ → List Lexeme
last_comma items = if items == 1 then token.Comma ∷ [] else []

-- the word before the n-th branch
abbrev pub branch_word : ℕ → Lexeme
branch_word zero = token.If
branch_word (suc n) = token.Elif

-- what stands before the body of a function
abbrev pub head : List ℕ → List (List ℕ) → List Lexeme
head name parameters = token.Def ∷ token.Name name ∷ token.OpenParen ∷ (names_with token.Comma parameters ++ token.CloseParen ∷ token.Colon ∷ [])
