-- Tokens, with their texts as UTF-8, and lists of them.
use Rattle.std.specs.Prelude.{ℕ, zero, suc, ◌+◌, ◌-◌, ◌==◌, ◌||◌, if◌then◌else◌, List, [], ◌∷◌, ◌++◌, length, Result, Ok, Err}
use Rattle.std.specs.Str.{encode_utf8_all}
use Rattle.py_lexer.specs.declared.columns.Columns.{Columns}
use Rattle.py_lexer.specs.declared.error.Fault.{Fault}
use Rattle.py_lexer.specs.declared.indent.Change.{Change}
use Rattle.py_lexer.specs.declared.indent.Change.TheVariants.{Indent, Dedents}
use Rattle.py_lexer.specs.declared.word.Tok.{Tok}
use Rattle.py_lexer.specs.declared.word.Tok.TheVariants.{Str, Op, Newline, Indent as IndentTok, Dedent, End}
use Rattle.py_lexer.specs.declared.word.Token.{Token}

-- the characters as UTF-8
unfoldable pub utf8_of : List ℕ → List ℕ
utf8_of cs = encode_utf8_all cs

-- a string and an operator of these characters
abbrev pub quoted_of : List ℕ → Tok
quoted_of cs = Str (utf8_of cs)

-- an operator or a delimiter of these characters
abbrev pub symbol_of : List ℕ → Tok
symbol_of cs = Op (utf8_of cs)

-- the tokens, or the first fault
abbrev pub Outcome : Type 0
Outcome = Result (List Token) Fault

-- these tokens come before
abbrev pub before : List Token → Outcome → Outcome
before ts (Ok us) = Ok (ts ++ us)
before ts (Err f) = Err f

-- one token alone, in this line
abbrev pub mark : Tok → ℕ → List Token
mark lexeme line = record { kind = lexeme; line = line } ∷ []

-- so many Dedents, all in this line
abbrev pub dedents : ℕ → ℕ → List Token
dedents zero line = []
dedents (suc n) line = record { kind = Dedent; line = line } ∷ dedents n line

-- what a change of the open columns gives
abbrev pub marks : Change → ℕ → List Token
marks Indent line = mark IndentTok line
marks (Dedents n) line = dedents n line

-- what the end of the text gives: a Dedent for each open level, and End
abbrev pub closing : List Columns → ℕ → List Token
closing stack line = dedents (length stack - 1) line ++ mark End line

-- the Newline of the logical line that the text ends, unless a bracket is open there
abbrev pub newline_at_end : ℕ → ℕ → List Token
newline_at_end zero line = mark Newline line
newline_at_end (suc depth) line = []

-- The open brackets after a token: one more at `(` (40), `[` (91) and `{` (123), one
-- fewer at `)` (41), `]` (93) and `}` (125), whichever opened, and never below 0.
abbrev pub depth_after : Tok → ℕ → ℕ
depth_after (Op (c ∷ [])) depth =
    if (c == 40 || c == 91) || c == 123 then depth + 1
    else if (c == 41 || c == 93) || c == 125 then depth - 1
    else depth
depth_after lexeme depth = depth
