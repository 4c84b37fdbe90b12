-- The text of lexemes: four blanks for each open level stand before a line,
-- a blank before each other lexeme, and a line end (10) behind each line.
use Rattle.std.specs.Prelude.{ℕ, zero, suc, ◌-◌, Bool, true, false, if◌then◌else◌, List, [], ◌∷◌, ◌++◌, codes}
use Rattle.py_syntax.specs.declared.lexeme.Lexeme.{Lexeme}
use Rattle.py_syntax.specs.declared.lexeme.Lexeme.TheVariants as token
use Rattle.source_print.specs.Spelling.{spelled}

-- four blanks for each open level
abbrev pub indentation : ℕ → List ℕ
indentation zero = []
indentation (suc n) = codes "    " ++ indentation n

-- what stands before a lexeme, where so many levels are open
abbrev pub lead : ℕ → Bool → List ℕ
lead depth is_first = if is_first then indentation depth else codes " "

-- the text of these lexemes, where a line begins or goes on
unfoldable pub rendered : ℕ → Bool → List Lexeme → List ℕ
rendered depth is_first [] = []
rendered depth is_first (token.Newline ∷ ts) = 10 ∷ rendered depth true ts
rendered depth is_first (token.Indent ∷ ts) = rendered (suc depth) is_first ts
rendered depth is_first (token.Dedent ∷ ts) = rendered (depth - 1) is_first ts
rendered depth is_first (token.End ∷ ts) = rendered depth is_first ts
rendered depth is_first (t ∷ ts) = lead depth is_first ++ (spelled t ++ rendered depth false ts)

-- the text of a whole script: a line begins, and no level is open
abbrev pub text_of : List Lexeme → List ℕ
text_of ts = rendered 0 true ts
