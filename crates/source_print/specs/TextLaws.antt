-- The text of a printed script is a source of that script.
use Rattle.std.specs.Prelude.{ℕ, ◌≤◌, List, length, Ok}
use Rattle.std.specs.Str.{IsUtf8}
use Rattle.base_types.specs.declared.limits.TheConstants.{LONGEST_SOURCE}
use Rattle.py_lexer.specs.declared.word.Token.{Token}
use Rattle.py_lexer.specs.Source.{Tokens}
use Rattle.py_parser.specs.Words.{lexemes_of}
use Rattle.py_syntax.specs.declared.lexeme.Lexeme.{Lexeme}
use Rattle.py_syntax.specs.declared.lexeme.Lexeme.TheVariants as token
use Rattle.py_syntax.specs.declared.stmt.Script.{Script}
use Rattle.py_syntax.specs.Grammar.{Spells}
use Rattle.source_print.specs.Statements.{printed}
use Rattle.source_print.specs.Lines.{Held}
use Rattle.source_print.specs.Text.{text_of}

-- the bytes are a source of the script: they have tokens, which spell it with at most 64 open levels
pub record IsSource (src : List ℕ) (s : Script) : Type 0 where
  pub tokens : List Token
  pub lexed : Tokens src (Ok tokens)
  pub spelled : Spells 64 (lexemes_of tokens) s

-- the text of a name or of a string is UTF-8
abbrev pub Utf8 : Lexeme → Type 0
Utf8 (token.Name n) = IsUtf8 n
Utf8 (token.Str s) = IsUtf8 s
Utf8 t = Unit {0}

-- Where some source of the script is, its printed text is one, if it is not longer than a source may be.
abbrev pub PrintsBack : List ℕ → Script → Type 0
PrintsBack text s = (src : List ℕ) → IsSource src s → length text ≤ LONGEST_SOURCE → IsSource text s

-- This holds of each text, where names, strings and the text itself are UTF-8.
abbrev pub TextIsSource : Type 0
TextIsSource = (s : Script) → Held Utf8 (printed s) → IsUtf8 (text_of (printed s)) → PrintsBack (text_of (printed s)) s
