-- Lines say what bits say, and the other way round.
use Rattle.std.proofs.Common.{◌≡◌, ℕ, zero, suc, ◌+◌, Ok, Err, List, [], ◌++◌, sym, ap, subst, ◌∙◌}
use Rattle.std.specs.Prelude.{IsTrue}
use Rattle.py_lexer.specs.declared.columns.Columns.{Columns}
use Rattle.py_lexer.specs.declared.error.Kind.{Kind}
use Rattle.py_lexer.specs.declared.gap.Gap.TheVariants.{Ended}
use Rattle.py_lexer.specs.declared.indent.Change.{Change}
use Rattle.py_lexer.specs.declared.word.Tok.TheVariants.{Newline}
use Rattle.py_lexer.specs.declared.word.Token.{Token}
use Rattle.py_lexer.specs.Gaps.{Stands}
use Rattle.py_lexer.specs.Indent.{settled}
use Rattle.py_lexer.specs.TokenList.{Outcome, before, mark, marks, closing, newline_at_end}
use Rattle.py_lexer.specs.Words.{Faulty, begins_token}
use Rattle.py_lexer.specs.Tokens as tokens
use Rattle.py_lexer.specs.Tokens.{Passed, Start, Piece, Pieces, Lines}
use Rattle.py_lexer.proofs.Bits as bits
use Rattle.py_lexer.proofs.Bits.{Starts, Fresh, Within}
use Rattle.py_lexer.proofs.Lexes.{before_before, nothing_before}

-- lines are bits
passed_fresh : {stack : List Columns} {at : Columns} {first line next : ℕ} {text rest : List ℕ} {out : Outcome} → Passed line text next rest → Fresh stack at first next rest out → Fresh stack at first line text out
passed_fresh tokens.none f = f
passed_fresh (tokens.blank s p) f = bits.blank s (passed_fresh p f)
passed_fresh (tokens.joined s p) f = bits.joined s (passed_fresh p f)

start_starts : {stack : List Columns} {at : Columns} {line next : ℕ} {text rest : List ℕ} {out : Outcome} → Start line text at next rest → Fresh stack at line next rest out → Starts stack line text out
start_starts (tokens.start r p) f = bits.starts r (passed_fresh p f)

without : {stack : List Columns} {depth line : ℕ} {text : List ℕ} {out : Outcome} → Within stack depth line text out → Within stack depth line text (before [] out)
without {stack} {depth} {line} {text} {out} w = subst (Within stack depth line text) (sym (nothing_before out)) w

piece_within : {stack : List Columns} {d1 d2 l1 l2 : ℕ} {text after : List ℕ} {ts : List Token} {out : Outcome} → Piece d1 l1 text ts d2 l2 after → Within stack d2 l2 after out → Within stack d1 l1 text (before ts out)
piece_within (tokens.blank s) w = without (bits.blank_inside s w)
piece_within (tokens.joined s) w = without (bits.joined_inside s w)
piece_within (tokens.inside s) w = without (bits.inner s w)
piece_within (tokens.token r) w = bits.token r w

pieces_within : {stack : List Columns} {d1 d2 l1 l2 : ℕ} {text after : List ℕ} {ts : List Token} {out : Outcome} → Pieces d1 l1 text ts d2 l2 after → Within stack d2 l2 after out → Within stack d1 l1 text (before ts out)
pieces_within tokens.none w = without w
pieces_within {stack} {d1} {l1 = l1} {text = text} {out = out} (tokens.more {ts = ts} {us = us} p ps) w =
    subst (Within stack d1 l1 text) (sym (before_before ts us out)) (piece_within p (pieces_within ps w))

last_within : (stack : List Columns) (depth line : ℕ) → Within stack depth line [] (Ok (newline_at_end depth line ++ closing stack line))
last_within stack zero line = bits.ended_by_text
last_within stack (suc depth) line = bits.open_end

pub lines_starts : {stack : List Columns} {line : ℕ} {text : List ℕ} {out : Outcome} → Lines stack line text out → Starts stack line text out
lines_starts (tokens.empty st s ls) = start_starts st (bits.empty s (lines_starts ls))
lines_starts (tokens.logical st b e ps s ls) = start_starts st (bits.opens b e (pieces_within ps (bits.ended s (lines_starts ls))))
lines_starts (tokens.last {levels = levels} {last = last} {depth = depth} st b e ps) = start_starts st (bits.opens b e (pieces_within ps (last_within levels depth last)))
lines_starts (tokens.finished st) = start_starts st bits.nothing
lines_starts (tokens.misplaced st b e) = start_starts st (bits.misplaced b e)
lines_starts (tokens.fault st b e ps f) = start_starts st (bits.opens b e (pieces_within ps (bits.fault f)))

-- how a logical line stops
data Stops : List Columns → ℕ → ℕ → List ℕ → Outcome → Type 0 where
  ended : {stack : List Columns} {line : ℕ} {text after : List ℕ} {out : Outcome} → Stands text Ended after → Lines stack (line + 1) after out → Stops stack zero line text (before (mark Newline line) out)
  by_text : {stack : List Columns} {depth line : ℕ} → Stops stack depth line [] (Ok (newline_at_end depth line ++ closing stack line))
  faulty : {stack : List Columns} {depth line : ℕ} {text : List ℕ} {kind : Kind} → Faulty text kind → Stops stack depth line text (Err (record { kind = kind; line = line }))

record Rest (stack : List Columns) (depth line : ℕ) (text : List ℕ) (out : Outcome) : Type 0 where
  ts : List Token
  d : ℕ
  l : ℕ
  end : List ℕ
  how : Outcome
  is : Pieces depth line text ts d l end
  stops : Stops stack d l end how
  same : out ≡ before ts how

extend : {stack : List Columns} {d1 d2 l1 l2 : ℕ} {text after : List ℕ} {ts : List Token} {out : Outcome} → Piece d1 l1 text ts d2 l2 after → Rest stack d2 l2 after out → Rest stack d1 l1 text (before ts out)
extend {ts = ts} p r = record {
  ts = ts ++ r.ts;
  d = r.d;
  l = r.l;
  end = r.end;
  how = r.how;
  is = tokens.more p r.is;
  stops = r.stops;
  same = ap (before ts) r.same ∙ sym (before_before ts r.ts r.how);
}

extend_blank : {stack : List Columns} {d1 d2 l1 l2 : ℕ} {text after : List ℕ} {out : Outcome} → Piece d1 l1 text [] d2 l2 after → Rest stack d2 l2 after out → Rest stack d1 l1 text out
extend_blank {stack} {d1} {l1 = l1} {text = text} {out = out} p r = subst (Rest stack d1 l1 text) (nothing_before out) (extend p r)

stop : {stack : List Columns} {depth line : ℕ} {text : List ℕ} {out : Outcome} → Stops stack depth line text out → Rest stack depth line text out
stop {depth = depth} {line = line} {text = text} {out = out} s = record { ts = []; d = depth; l = line; end = text; how = out; is = tokens.none; stops = s; same = sym (nothing_before out) }

line_from : {stack levels : List Columns} {at : Columns} {change : Change} {line next depth l : ℕ} {text rest end : List ℕ} {ts : List Token} {how : Outcome}
    → Start line text at next rest → IsTrue (begins_token rest) → settled stack at ≡ Ok (change, levels) → Pieces zero next rest ts depth l end → Stops levels depth l end how → Lines stack line text (before (marks change next) (before ts how))
line_from st b e ps (ended s ls) = tokens.logical st b e ps s ls
line_from st b e ps by_text = tokens.last st b e ps
line_from st b e ps (faulty f) = tokens.fault st b e ps f

-- what a text gives behind the start of a line
data Begun : List Columns → Columns → ℕ → ℕ → List ℕ → Outcome → Type 0 where
  empty_line : {stack : List Columns} {at : Columns} {first line : ℕ} {text after : List ℕ} {out : Outcome} → Stands text Ended after → Lines stack (line + 1) after out → Begun stack at first line text out
  nothing : {stack : List Columns} {at : Columns} {first line : ℕ} → Begun stack at first line [] (Ok (closing stack line))
  opens : {stack levels : List Columns} {at : Columns} {first line : ℕ} {change : Change} {text : List ℕ} {out : Outcome} → IsTrue (begins_token text) → settled stack at ≡ Ok (change, levels) → Rest levels zero line text out → Begun stack at first line text (before (marks change line) out)
  misplaced : {stack : List Columns} {at : Columns} {first line : ℕ} {kind : Kind} {text : List ℕ} → IsTrue (begins_token text) → settled stack at ≡ Err kind → Begun stack at first line text (Err (record { kind = kind; line = first }))

record Behind (stack : List Columns) (at : Columns) (first line : ℕ) (text : List ℕ) (out : Outcome) : Type 0 where
  next : ℕ
  rest : List ℕ
  passed : Passed line text next rest
  begun : Begun stack at first next rest out

line_of : {stack : List Columns} {at : Columns} {line next : ℕ} {text rest : List ℕ} {out : Outcome} → Start line text at next rest → Begun stack at line next rest out → Lines stack line text out
line_of st (empty_line s ls) = tokens.empty st s ls
line_of st nothing = tokens.finished st
line_of {stack} {line = line} {text = text} st (opens {line = next} {change = change} b e r) = subst (λ (o : Outcome). Lines stack line text (before (marks change next) o)) (sym r.same) (line_from st b e r.is r.stops)
line_of st (misplaced b e) = tokens.misplaced st b e

here : {stack : List Columns} {at : Columns} {first line : ℕ} {text : List ℕ} {out : Outcome} → Begun stack at first line text out → Behind stack at first line text out
here {line = line} {text = text} b = record { next = line; rest = text; passed = tokens.none; begun = b }

-- bits are lines
mutual
  pub starts_lines : {stack : List Columns} {line : ℕ} {text : List ℕ} {out : Outcome} → Starts stack line text out → Lines stack line text out
  starts_lines (bits.starts r f) = let b = behind f in line_of (tokens.start r b.passed) b.begun

  behind : {stack : List Columns} {at : Columns} {first line : ℕ} {text : List ℕ} {out : Outcome} → Fresh stack at first line text out → Behind stack at first line text out
  behind (bits.blank s f) = let b = behind f in record { next = b.next; rest = b.rest; passed = tokens.blank s b.passed; begun = b.begun }
  behind (bits.joined s f) = let b = behind f in record { next = b.next; rest = b.rest; passed = tokens.joined s b.passed; begun = b.begun }
  behind (bits.empty s f) = here (empty_line s (starts_lines f))
  behind bits.nothing = here nothing
  behind (bits.opens b e w) = here (opens b e (rest_of w))
  behind (bits.misplaced b e) = here (misplaced b e)

  rest_of : {stack : List Columns} {depth line : ℕ} {text : List ℕ} {out : Outcome} → Within stack depth line text out → Rest stack depth line text out
  rest_of (bits.blank_inside s w) = extend_blank (tokens.blank s) (rest_of w)
  rest_of (bits.joined_inside s w) = extend_blank (tokens.joined s) (rest_of w)
  rest_of (bits.inner s w) = extend_blank (tokens.inside s) (rest_of w)
  rest_of (bits.ended s f) = stop (ended s (starts_lines f))
  rest_of bits.ended_by_text = stop by_text
  rest_of bits.open_end = stop by_text
  rest_of (bits.token r w) = extend (tokens.token r) (rest_of w)
  rest_of (bits.fault f) = stop (faulty f)
