-- A source: its bytes, and its tokens or why there are none (Language Reference, chapter 2, for a small subset).
use Rattle.std.specs.Prelude.{ℕ, suc, ◌+◌, ◌<◌, ◌≤◌, ◌==◌, not, ◌||◌, ◌&&◌, if◌then◌else◌, List, [], ◌∷◌, length, take, Result, Ok, Err}
use Rattle.std.specs.Str.{IsUtf8, IsValidUpTo, chars}
use Rattle.base_types.specs.declared.limits.TheConstants.{LONGEST_SOURCE}
use Rattle.py_lexer.specs.declared.error.Kind.{Kind}
use Rattle.py_lexer.specs.declared.error.Kind.TheVariants.{BadChar, BadNumber, NumberTooWide, OpenString, BadEscape, BadDedent, MixedTabs}
use Rattle.py_lexer.specs.declared.error.LexError.{LexError}
use Rattle.py_lexer.specs.declared.error.LexError.TheVariants as error
use Rattle.py_lexer.specs.Chars.{head_passes}
use Rattle.py_lexer.specs.Columns.{margin}
use Rattle.py_lexer.specs.declared.word.Token.{Token}
use Rattle.py_lexer.specs.TokenList.{Outcome}
use Rattle.py_lexer.specs.Tokens.{Lines}

-- how many line ends the text has: LF (10), CR LF or CR (13)
unfoldable pub line_ends : List ℕ → ℕ
line_ends [] = 0
line_ends (c ∷ cs) = if c == 10 || (c == 13 && not (head_passes (λ d. d == 10) cs)) then suc (line_ends cs) else line_ends cs

-- without a leading U+FEFF
unfoldable pub without_mark : List ℕ → List ℕ
without_mark [] = []
without_mark (c ∷ cs) = if c == 65279 then cs else c ∷ cs

-- the error of a source for each kind of fault, in this line
abbrev pub error_at : Kind → ℕ → LexError
error_at BadChar line = error.BadChar line
error_at BadNumber line = error.BadNumber line
error_at NumberTooWide line = error.NumberTooWide line
error_at OpenString line = error.OpenString line
error_at BadEscape line = error.BadEscape line
error_at BadDedent line = error.BadDedent line
error_at MixedTabs line = error.MixedTabs line

-- the tokens, or why there are none
abbrev pub Answer : Type 0
Answer = Result (List Token) LexError

-- what the lines of a source come to as the source's answer: its tokens, or its first fault
abbrev pub answer_of : Outcome → Answer
answer_of (Ok ts) = Ok ts
answer_of (Err fault) = Err (error_at fault.kind fault.line)

-- A source of more than 1,048,576 bytes is TooLong. Else one that is not UTF-8 is NotUtf8, with the line of its first
-- bad byte. Else its tokens, or its first fault in text order, are those of its lines; a leading U+FEFF is dropped.
pub data Tokens : List ℕ → Answer → Type 0 where
  too_long : {src : List ℕ} → LONGEST_SOURCE < length src → Tokens src (Err error.TooLong)
  -- the first n bytes are the longest front that is UTF-8, and more follow
  not_utf8 : {src : List ℕ} {n : ℕ} → length src ≤ LONGEST_SOURCE → IsValidUpTo src n → Tokens src (Err (error.NotUtf8 (line_ends (take n src) + 1)))
  text : {src : List ℕ} {out : Outcome} → length src ≤ LONGEST_SOURCE → IsUtf8 src → Lines (margin ∷ []) 1 (without_mark (chars src)) out → Tokens src (answer_of out)
