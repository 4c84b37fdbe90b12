-- Lines and logical lines (Language Reference 2.1). A text is cut into logical lines and
-- lines without tokens; a logical line has its two columns, which open or close levels, and
-- its tokens. `line` is the line of the front, from 1, and `depth` counts the open brackets.
use Rattle.std.specs.Prelude.{◌≡◌, ℕ, zero, suc, ◌+◌, List, [], ◌++◌, Ok, Err, IsTrue}
use Rattle.py_lexer.specs.declared.columns.Columns.{Columns}
use Rattle.py_lexer.specs.declared.error.Kind.{Kind}
use Rattle.py_lexer.specs.declared.gap.Gap.TheVariants.{Blank, Joined, Ended}
use Rattle.py_lexer.specs.declared.indent.Change.{Change}
use Rattle.py_lexer.specs.declared.word.Tok.{Tok}
use Rattle.py_lexer.specs.declared.word.Tok.TheVariants.{Newline}
use Rattle.py_lexer.specs.declared.word.Token.{Token}
use Rattle.py_lexer.specs.Chars.{is_white, IsRun}
use Rattle.py_lexer.specs.Columns.{margin, columns_after}
use Rattle.py_lexer.specs.Gaps.{Stands}
use Rattle.py_lexer.specs.Indent.{settled}
use Rattle.py_lexer.specs.TokenList.{Outcome, before, mark, marks, closing, newline_at_end, depth_after}
use Rattle.py_lexer.specs.Words.{Reads, Faulty, begins_token}

-- white space, comments and joined line ends, as far as the next line and what follows
pub data Passed : ℕ → List ℕ → ℕ → List ℕ → Type 0 where
  none : {line : ℕ} {text : List ℕ} → Passed line text line text
  blank : {line next : ℕ} {text after rest : List ℕ} → Stands text Blank after → Passed line after next rest → Passed line text next rest
  joined : {line next : ℕ} {text after rest : List ℕ} → Stands text Joined after → Passed (line + 1) after next rest → Passed line text next rest

-- The start of a line: the two columns of its leading white space, then nothing that is a token, as far
-- as the next line and what follows. With a joined line the columns are those before the first backslash.
pub data Start : ℕ → List ℕ → Columns → ℕ → List ℕ → Type 0 where
  start : {line next : ℕ} {white after rest : List ℕ} → IsRun is_white white after → Passed line after next rest → Start line (white ++ after) (columns_after margin white) next rest

-- A piece of a logical line: the tokens that it gives, and then the open brackets, the line and what follows.
pub data Piece : ℕ → ℕ → List ℕ → List Token → ℕ → ℕ → List ℕ → Type 0 where
  blank : {depth line : ℕ} {text after : List ℕ} → Stands text Blank after → Piece depth line text [] depth line after
  joined : {depth line : ℕ} {text after : List ℕ} → Stands text Joined after → Piece depth line text [] depth (line + 1) after
  -- inside `(`, `[`, `{` line ends and indentation make no tokens (2.1.6)
  inside : {depth line : ℕ} {text after : List ℕ} → Stands text Ended after → Piece (suc depth) line text [] (suc depth) (line + 1) after
  -- a token's line is that of its first character
  token : {depth line n : ℕ} {text after : List ℕ} {tok : Tok} → Reads text tok n after → Piece depth line text (mark tok line) (depth_after tok depth) (line + n) after

-- pieces in a row
pub data Pieces : ℕ → ℕ → List ℕ → List Token → ℕ → ℕ → List ℕ → Type 0 where
  none : {depth line : ℕ} {text : List ℕ} → Pieces depth line text [] depth line text
  more : {d1 d2 d3 l1 l2 l3 : ℕ} {text after rest : List ℕ} {ts us : List Token} → Piece d1 l1 text ts d2 l2 after → Pieces d2 l2 after us d3 l3 rest → Pieces d1 l1 text (ts ++ us) d3 l3 rest

-- The tokens of a text, or its first fault; `stack` has the open columns, the innermost first.
pub data Lines : List Columns → ℕ → List ℕ → Outcome → Type 0 where
  -- a line of white space and comment alone makes no tokens (2.1.7)
  empty : {stack : List Columns} {at : Columns} {line next : ℕ} {text rest after : List ℕ} {out : Outcome}
      → Start line text at next rest → Stands rest Ended after → Lines stack (next + 1) after out → Lines stack line text out
  -- A logical line: its columns open a level or close levels (2.1.8), which gives Indent or Dedents with the
  -- line of the token behind them; then come its tokens, and Newline with the line of the line end that ends it.
  logical : {stack levels : List Columns} {at : Columns} {change : Change} {line next last : ℕ} {text rest end after : List ℕ} {ts : List Token} {out : Outcome}
      → Start line text at next rest → IsTrue (begins_token rest) → settled stack at ≡ Ok (change, levels)
      → Pieces zero next rest ts zero last end → Stands end Ended after → Lines levels (last + 1) after out
      → Lines stack line text (before (marks change next) (before ts (before (mark Newline last) out)))
  -- The logical line that the text ends: it ends with Newline too, unless a
  -- bracket is open there. Then come the Dedents of all open levels and End.
  last : {stack levels : List Columns} {at : Columns} {change : Change} {line next last depth : ℕ} {text rest : List ℕ} {ts : List Token}
      → Start line text at next rest → IsTrue (begins_token rest) → settled stack at ≡ Ok (change, levels)
      → Pieces zero next rest ts depth last []
      → Lines stack line text (before (marks change next) (before ts (Ok (newline_at_end depth last ++ closing levels last))))
  -- the end of the text behind the last logical line
  finished : {stack : List Columns} {at : Columns} {line last : ℕ} {text : List ℕ}
      → Start line text at last [] → Lines stack line text (Ok (closing stack last))
  -- a fault of indentation has the first line of its logical line
  misplaced : {stack : List Columns} {at : Columns} {kind : Kind} {line next : ℕ} {text rest : List ℕ}
      → Start line text at next rest → IsTrue (begins_token rest) → settled stack at ≡ Err kind
      → Lines stack line text (Err (record { kind = kind; line = line }))
  -- a fault in a token has its line
  fault : {stack levels : List Columns} {at : Columns} {change : Change} {kind : Kind} {line next last depth : ℕ} {text rest end : List ℕ} {ts : List Token}
      → Start line text at next rest → IsTrue (begins_token rest) → settled stack at ≡ Ok (change, levels)
      → Pieces zero next rest ts depth last end → Faulty end kind
      → Lines stack line text (Err (record { kind = kind; line = last }))
