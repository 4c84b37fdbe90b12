-- How the code reads, as functions that its contracts name: what stands
-- at the front, and what follows it; and the whole text, piece by piece.
use Rattle.std.specs.Prelude.{pos, ℕ, zero, suc, ◌+◌, ◌-◌, ◌*◌, ◌^◌, min, ◌==◌, Bool, true, false, not, ◌&&◌, nat_lt, if◌then◌else◌, List, [], ◌∷◌, ◌++◌, length, take, drop, Option, Some, None, Result, Ok, Err}
use Rattle.std.specs.List.{prefix_len}
use Rattle.py_lexer.specs.declared.chars.Class.{Class}
use Rattle.py_lexer.specs.declared.chars.Class.TheVariants.{White, Hash, LineEnd, Backslash, Digit, Quote, Letter, Other}
use Rattle.py_lexer.specs.declared.columns.Columns.{Columns}
use Rattle.py_lexer.specs.declared.error.Kind.{Kind}
use Rattle.py_lexer.specs.declared.error.Kind.TheVariants.{BadChar, BadNumber, NumberTooWide, OpenString, BadEscape}
use Rattle.py_lexer.specs.declared.error.Fault.{Fault}
use Rattle.py_lexer.specs.declared.gap.Gap.{Gap}
use Rattle.py_lexer.specs.declared.gap.Gap.TheVariants.{Blank, Joined, Ended}
use Rattle.py_lexer.specs.declared.scan.Mode.{Mode}
use Rattle.py_lexer.specs.declared.scan.Mode.TheVariants.{Fresh, Inside}
use Rattle.py_lexer.specs.Chars.{class_of, is_end, is_digit, head_passes}
use Rattle.spec_core.specs.Identifiers.{continues_identifier}
use Rattle.py_lexer.specs.declared.quoted.Quotes.{Quotes}
use Rattle.py_lexer.specs.Strings.{Part, closing_quotes, opening_quotes, escaped, hex_pair, hex_four, is_surrogate}
use Rattle.py_lexer.specs.Columns.{margin, leading}
use Rattle.py_lexer.specs.Indent.{settled}
use Rattle.py_lexer.specs.Names.{is_ident, ident_text, word_of}
use Rattle.py_lexer.specs.Operators.{op_len}
use Rattle.py_lexer.specs.TokenList.{quoted_of, symbol_of, Outcome, mark, marks, closing, depth_after}
use Rattle.py_lexer.specs.declared.word.Tok.{Tok}
use Rattle.py_lexer.specs.declared.word.Token.{Token}
use Rattle.py_lexer.specs.declared.word.Tok.TheVariants.{Number, Newline}

infixl 10 ◌>>=◌
-- what comes next is read behind what was read; the first error is that of the whole
abbrev pub ◌>>=◌ : {A B E : Type 0} → Result A E → (A → Result B E) → Result B E
(Ok x) >>= f = f x
(Err e) >>= f = Err e

-- what follows a line end that begins with c
unfoldable pub after_end : ℕ → List ℕ → List ℕ
after_end c [] = []
after_end c (d ∷ ds) = if c == 13 && d == 10 then ds else d ∷ ds

-- what follows a comment: its line end with all behind it, or nothing where the text ends
unfoldable pub after_comment : List ℕ → List ℕ
after_comment [] = []
after_comment (c ∷ cs) = if is_end c then c ∷ cs else after_comment cs

-- a backslash joins the line end directly behind it; before anything else it joins nothing
unfoldable pub after_join : List ℕ → Option (Gap × List ℕ)
after_join [] = None
after_join (c ∷ cs) = if is_end c then Some (Joined, after_end c cs) else None

-- what stands between tokens, where a character of this class begins it
abbrev pub gap_of : Class → ℕ → List ℕ → Option (Gap × List ℕ)
gap_of White c cs = Some (Blank, cs)
gap_of Hash c cs = Some (Blank, after_comment cs)
gap_of LineEnd c cs = Some (Ended, after_end c cs)
gap_of Backslash c cs = after_join cs
gap_of Digit c cs = None
gap_of Quote c cs = None
gap_of Letter c cs = None
gap_of Other c cs = None

-- what stands between tokens at the front, and what follows it; none where a token or a fault in its place stands
unfoldable pub gap : List ℕ → Option (Gap × List ℕ)
gap [] = None
gap (c ∷ cs) = gap_of (class_of c) c cs

-- a token, over so many line ends
pub record Read_word : Type 0 where
  pub lexeme : Tok
  pub lines : ℕ

-- a token and what follows it, or what is wrong in its place
abbrev pub Reading : Type 0
Reading = Result (Read_word × List ℕ) Kind

-- this token is read, over so many line ends, and the rest follows it
abbrev pub read : Tok → ℕ → List ℕ → Reading
read lexeme lines rest = Ok (record { lexeme = lexeme; lines = lines }, rest)

-- an identifier, as long as it can be (Language Reference 2.3); one whose normal form is none is BadChar
unfoldable pub name : List ℕ → Reading
name cs =
    let n = prefix_len continues_identifier cs in
    if is_ident (ident_text (take n cs)) then read (word_of (ident_text (take n cs))) 0 (drop n cs) else Err BadChar

-- the value with one more digit, up to a bound above all that a token may have
abbrev pub more_digits : ℕ → ℕ → ℕ
more_digits n c = min (10 * n + (c - 48)) (2 ^ 128 - 1)

-- the value of digits after those of the value n; whether a `_` came last
unfoldable pub digits : Bool → ℕ → List ℕ → Option ℕ
digits joint n [] = if joint then None else Some n
digits joint n (c ∷ cs) =
    if is_digit c then digits false (more_digits n c) cs
    else if c == 95 && not joint then digits true n cs
    else None

-- the value of a number's text
unfoldable pub number_value : List ℕ → Option ℕ
number_value [] = None
number_value (c ∷ cs) = elim (digits false (c - 48) cs) [ None ↦ None | Some m ↦ if c == 48 && not (m == 0) then None else Some m ]

-- a number by the value of its text: where that has none it is BadNumber, and from 2^127 on it is NumberTooWide
abbrev pub number_of : Option ℕ → List ℕ → Reading
number_of None rest = Err BadNumber
number_of (Some m) rest = if nat_lt m (2 ^ 127) then read (Number (pos m)) 0 rest else Err NumberTooWide

-- all identifier characters at the front are to be the number; with a `.` (46) behind them it is BadNumber
unfoldable pub number : List ℕ → Reading
number cs =
    let n = prefix_len continues_identifier cs in
    if head_passes (λ d. d == 46) (drop n cs) then Err BadNumber else number_of (number_value (take n cs)) (drop n cs)

-- the longest operator or delimiter at the front; where there is none it is BadChar
unfoldable pub operator : List ℕ → Reading
operator cs = let n = op_len cs in if n == 0 then Err BadChar else read (symbol_of (take n cs)) 0 (drop n cs)

-- a part of a string: what it gives, over so many line ends
abbrev pub part : List ℕ → ℕ → List ℕ → Result (Part × List ℕ) Kind
part text lines rest = Ok (record { text = text; lines = lines }, rest)

-- the character of an escape by its hexadecimal digits: without them, and of a surrogate, it is BadEscape
unfoldable pub hex_escape : Option ℕ → List ℕ → Result (Part × List ℕ) Kind
hex_escape None rest = Err BadEscape
hex_escape (Some n) rest = if is_surrogate n then Err BadEscape else part (n ∷ []) 0 rest

-- behind a backslash: x is 120, u is 117
unfoldable pub escape : List ℕ → Result (Part × List ℕ) Kind
escape [] = Err BadEscape
escape (c ∷ cs) =
    if is_end c then part [] 1 (after_end c cs)
    else if c == 120 then hex_escape (hex_pair cs) (drop 2 cs)
    else if c == 117 then hex_escape (hex_four cs) (drop 4 cs)
    else elim (escaped c) [ None ↦ Err BadEscape | Some d ↦ part (d ∷ []) 0 cs ]

-- in a string, where it is not closed
unfoldable pub item : Quotes → List ℕ → Result (Part × List ℕ) Kind
item q [] = Err OpenString
item q (c ∷ cs) =
    if c == 92 then escape cs
    else if is_end c then (if q.long then part (10 ∷ []) 1 (after_end c cs) else Err OpenString)
    else part (c ∷ []) 0 cs

-- the rest of a string, of fewer than n parts, after the text so far
unfoldable pub body : ℕ → Quotes → List ℕ → ℕ → List ℕ → Reading
body zero q text lines cs = Err OpenString
body (suc n) q text lines cs =
    elim (closing_quotes q cs) [
      | Some rest ↦ read (quoted_of text) lines rest
      | None ↦ item q cs >>= λ x. body n q (text ++ x.0.text) (lines + x.0.lines) x.1
    ]

-- a string from its opening quotes on; it has no more parts than characters
unfoldable pub quoted : List ℕ → Reading
quoted [] = Err OpenString
quoted (c ∷ cs) = let x = opening_quotes c cs in body (suc (length x.1)) x.0 [] 0 x.1

-- a token, where a character of this class begins it
abbrev pub word_by : Class → List ℕ → Reading
word_by White cs = Err BadChar
word_by Hash cs = Err BadChar
word_by LineEnd cs = Err BadChar
word_by Backslash cs = Err BadChar
word_by Digit cs = number cs
word_by Quote cs = quoted cs
word_by Letter cs = name cs
word_by Other cs = operator cs

-- the token at the front, by its first character; the end of the text has none
unfoldable pub word : List ℕ → Reading
word [] = Err BadChar
word (c ∷ cs) = word_by (class_of c) (c ∷ cs)

-- what was read, and where: the open columns, the innermost first, and the tokens
pub record State : Type 0 where
  pub stack : List Columns
  pub mode : Mode
  pub line : ℕ
  pub out : List Token

-- a line begins
unfoldable pub start : State → List ℕ → State × List ℕ
start s cs =
    let l = leading margin cs in
    (record { stack = s.stack; mode = Fresh l.0 s.line; line = s.line; out = s.out }, l.1)

-- a line end is passed
abbrev pub next_line : State → State
next_line s = record { stack = s.stack; mode = s.mode; line = s.line + 1; out = s.out }

-- these tokens come behind those that are there
abbrev pub add : State → List Token → State
add s ts = record { stack = s.stack; mode = s.mode; line = s.line; out = s.out ++ ts }

-- past what stands between tokens
unfoldable pub pass : Gap → State → List ℕ → State × List ℕ
pass Blank s cs = (s, cs)
pass Joined s cs = (next_line s, cs)
pass Ended s cs = elim s.mode [
  | Fresh at first ↦ start (next_line s) cs
  | Inside depth ↦ if depth == 0 then start (next_line (add s (mark Newline s.line))) cs else (next_line s, cs)
]

-- before a token
unfoldable pub begin : State → Result State Fault
begin s = elim s.mode [
  | Inside depth ↦ Ok s
  | Fresh at first ↦ elim (settled s.stack at) [
    | Err kind ↦ Err (record { kind = kind; line = first })
    | Ok x ↦ Ok (record { stack = x.1; mode = Inside 0; line = s.line; out = s.out ++ marks x.0 s.line })
  ]
]

-- a token opens or closes brackets in its logical line; before the first token there is nothing to count
abbrev pub mode_after : Tok → Mode → Mode
mode_after lexeme (Fresh at first) = Fresh at first
mode_after lexeme (Inside depth) = Inside (depth_after lexeme depth)

-- behind a token
unfoldable pub put : State → Read_word → State
put s w = record { stack = s.stack; mode = mode_after w.lexeme s.mode; line = s.line + w.lines; out = s.out ++ mark w.lexeme s.line }

-- a token with the start of its logical line
unfoldable pub take_word : State → List ℕ → Result (State × List ℕ) Fault
take_word s cs = begin s >>= λ t. elim (word cs) [ Err kind ↦ Err (record { kind = kind; line = t.line }) | Ok x ↦ Ok (put t x.0, x.1) ]

-- one piece of the text: what stands between tokens, or a token
unfoldable pub step : State → List ℕ → Result (State × List ℕ) Fault
step s cs = elim (gap cs) [ Some x ↦ Ok (pass x.0 s x.1) | None ↦ take_word s cs ]

-- what the end of the text gives for the last logical line:
-- its Newline, unless it has no token yet or a bracket is open
abbrev pub last_line : Mode → ℕ → List Token
last_line (Fresh at first) line = []
last_line (Inside depth) line = if depth == 0 then mark Newline line else []

-- all tokens of the text: at its end come Newline, where one is due, a Dedent for each open level, and End
unfoldable pub finish : State → List Token
finish s = (s.out ++ last_line s.mode s.line) ++ closing s.stack s.line

-- the text in fewer than n steps
unfoldable pub scan : ℕ → State → List ℕ → Outcome
scan zero s cs = Ok []
scan (suc n) s [] = Ok (finish s)
scan (suc n) s (c ∷ cs) = step s (c ∷ cs) >>= λ y. scan n y.0 y.1

-- before the text: the margin alone is open, and line 1 begins
unfoldable pub first_state : State
first_state = record { stack = margin ∷ []; mode = Fresh margin 1; line = 1; out = [] }

-- the tokens of a text, or its first fault; there are no more steps than characters
unfoldable pub scan_text : List ℕ → Outcome
scan_text cs = let y = start first_state cs in scan (suc (length y.1)) y.0 y.1
