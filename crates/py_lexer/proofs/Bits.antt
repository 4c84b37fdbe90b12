-- The same as Lines, bit by bit: how the text behind each place goes on. The proofs about the scanner go by it.
use Rattle.std.specs.Prelude.{◌≡◌, ℕ, zero, suc, ◌+◌, List, [], ◌++◌, Ok, Err, IsTrue}
use Rattle.py_lexer.specs.declared.columns.Columns.{Columns}
use Rattle.py_lexer.specs.declared.error.Kind.{Kind}
use Rattle.py_lexer.specs.declared.gap.Gap.TheVariants.{Blank, Joined, Ended}
use Rattle.py_lexer.specs.declared.indent.Change.{Change}
use Rattle.py_lexer.specs.Chars.{is_white, IsRun}
use Rattle.py_lexer.specs.Columns.{margin, columns_after}
use Rattle.py_lexer.specs.Gaps.{Stands}
use Rattle.py_lexer.specs.Indent.{settled}
use Rattle.py_lexer.specs.TokenList.{Outcome, before, mark, marks, closing, depth_after}
use Rattle.py_lexer.specs.Words.{Reads, Faulty, begins_token}
use Rattle.py_lexer.specs.declared.word.Tok.{Tok}
use Rattle.py_lexer.specs.declared.word.Tok.TheVariants.{Newline}

mutual
  -- at the start of a line, outside of a logical line
  pub data Starts : List Columns → ℕ → List ℕ → Outcome → Type 0 where
    starts : {stack : List Columns} {line : ℕ} {white after : List ℕ} {out : Outcome} → IsRun is_white white after → Fresh stack (columns_after margin white) line line after out → Starts stack line (white ++ after) out

  -- behind leading white space with the columns `at`, which stands in the line `first`; no token has come yet
  pub data Fresh : List Columns → Columns → ℕ → ℕ → List ℕ → Outcome → Type 0 where
    blank : {stack : List Columns} {at : Columns} {first line : ℕ} {text after : List ℕ} {out : Outcome} → Stands text Blank after → Fresh stack at first line after out → Fresh stack at first line text out
    joined : {stack : List Columns} {at : Columns} {first line : ℕ} {text after : List ℕ} {out : Outcome} → Stands text Joined after → Fresh stack at first (line + 1) after out → Fresh stack at first line text out
    empty : {stack : List Columns} {at : Columns} {first line : ℕ} {text after : List ℕ} {out : Outcome} → Stands text Ended after → Starts stack (line + 1) after out → Fresh stack at first line text out
    nothing : {stack : List Columns} {at : Columns} {first line : ℕ} → Fresh stack at first line [] (Ok (closing stack line))
    opens : {stack next : List Columns} {at : Columns} {first line : ℕ} {change : Change} {text : List ℕ} {out : Outcome} → IsTrue (begins_token text) → settled stack at ≡ Ok (change, next) → Within next 0 line text out → Fresh stack at first line text (before (marks change line) out)
    misplaced : {stack : List Columns} {at : Columns} {first line : ℕ} {text : List ℕ} {kind : Kind} → IsTrue (begins_token text) → settled stack at ≡ Err kind → Fresh stack at first line text (Err (record { kind = kind; line = first }))

  -- in a logical line, which has a token
  pub data Within : List Columns → ℕ → ℕ → List ℕ → Outcome → Type 0 where
    blank_inside : {stack : List Columns} {depth line : ℕ} {text after : List ℕ} {out : Outcome} → Stands text Blank after → Within stack depth line after out → Within stack depth line text out
    joined_inside : {stack : List Columns} {depth line : ℕ} {text after : List ℕ} {out : Outcome} → Stands text Joined after → Within stack depth (line + 1) after out → Within stack depth line text out
    inner : {stack : List Columns} {depth line : ℕ} {text after : List ℕ} {out : Outcome} → Stands text Ended after → Within stack (suc depth) (line + 1) after out → Within stack (suc depth) line text out
    ended : {stack : List Columns} {line : ℕ} {text after : List ℕ} {out : Outcome} → Stands text Ended after → Starts stack (line + 1) after out → Within stack zero line text (before (mark Newline line) out)
    ended_by_text : {stack : List Columns} {line : ℕ} → Within stack zero line [] (Ok (mark Newline line ++ closing stack line))
    open_end : {stack : List Columns} {depth line : ℕ} → Within stack (suc depth) line [] (Ok (closing stack line))
    token : {stack : List Columns} {depth line n : ℕ} {text after : List ℕ} {lexeme : Tok} {out : Outcome} → Reads text lexeme n after → Within stack (depth_after lexeme depth) (line + n) after out → Within stack depth line text (before (mark lexeme line) out)
    fault : {stack : List Columns} {depth line : ℕ} {text : List ℕ} {kind : Kind} → Faulty text kind → Within stack depth line text (Err (record { kind = kind; line = line }))
