-- The last token of a source is END.
use Rattle.std.proofs.Common.{◌≡◌, ℕ, ◌-◌, List, [], ◌∷◌, ◌++◌, length, Ok, Err, refl, sym, ap, subst, ◌∙◌, append_assoc}
use Rattle.std.proofs.lemmas.List.{map-append}
use Rattle.py_lexer.specs.declared.columns.Columns.{Columns}
use Rattle.py_lexer.specs.declared.word.Token.{Token}
use Rattle.py_lexer.specs.declared.word.Tok.TheVariants.{Newline, End}
use Rattle.py_lexer.specs.Source as source
use Rattle.py_lexer.specs.Source.{Answer, Tokens, answer_of}
use Rattle.py_lexer.specs.TokenList.{Outcome, before, mark, marks, dedents, closing, newline_at_end}
use Rattle.py_lexer.specs.Tokens as lines
use Rattle.py_lexer.specs.Tokens.{Lines}
use Rattle.py_parser.specs.Parses.{Ends}
use Rattle.py_syntax.specs.declared.lexeme.Lexeme.TheVariants as token
use Rattle.py_parser.specs.Words.{lexeme_at, lexemes_of}

abbrev end_at : ℕ → Token
end_at line = record { kind = End; line = line }

-- what is given ends with END, if anything is
abbrev EndsIfOk : Outcome → Type 0
EndsIfOk (Ok ts) = Ends ts
EndsIfOk (Err fault) = Unit {0}

after : (ts us : List Token) → Ends us → Ends (ts ++ us)
after ts us e = record { front = ts ++ e.front; line = e.line; parts = ap (λ (l : List Token). ts ++ l) e.parts ∙ sym (append_assoc ts e.front (end_at e.line ∷ [])) }

closing_ends : (stack : List Columns) (line : ℕ) → Ends (closing stack line)
closing_ends stack line = record { front = dedents (length stack - 1) line; line = line; parts = refl }

before_ends : (ts : List Token) (out : Outcome) → EndsIfOk out → EndsIfOk (before ts out)
before_ends ts (Ok us) e = after ts us e
before_ends ts (Err fault) e = tt

lines_end : {stack : List Columns} {line : ℕ} {text : List ℕ} {out : Outcome} → Lines stack line text out → EndsIfOk out
lines_end (lines.empty s e h) = lines_end h
lines_end (lines.logical {change = change} {next = next} {last = end} {ts = ts} {out = out} s b c p e h) =
    let ended : Outcome = before (mark Newline end) out in
    before_ends (marks change next) (before ts ended) (before_ends ts ended (before_ends (mark Newline end) out (lines_end h)))
lines_end (lines.last {levels = levels} {change = change} {next = next} {last = end} {depth = depth} {ts = ts} s b c p) =
    let closed : List Token = newline_at_end depth end ++ closing levels end in
    before_ends (marks change next) (before ts (Ok closed)) (before_ends ts (Ok closed) (after (newline_at_end depth end) (closing levels end) (closing_ends levels end)))
lines_end (lines.finished {stack = stack} {last = end} s) = closing_ends stack end
lines_end (lines.misplaced s b c) = tt
lines_end (lines.fault s b c p f) = tt

answer_ends : (out : Outcome) (ts : List Token) → EndsIfOk out → answer_of out ≡ Ok ts → Ends ts
answer_ends (Ok us) ts e h = let p : us ≡ ts = cc in subst Ends p e
answer_ends (Err fault) ts e h = absurd cc

given_ends : (src : List ℕ) (answer : Answer) (ts : List Token) → Tokens src answer → answer ≡ Ok ts → Ends ts
given_ends src answer ts (source.too_long h) e = absurd cc
given_ends src answer ts (source.not_utf8 h k) e = absurd cc
given_ends src answer ts (source.text {out = out} h k l) e = answer_ends out ts (lines_end l) e

pub tokens_end : (src : List ℕ) (ts : List Token) → Tokens src (Ok ts) → Ends ts
tokens_end src ts h = given_ends src (Ok ts) ts h refl

-- to the grammar too
pub lexemes_end : (ts : List Token) (e : Ends ts) → lexemes_of ts ≡ lexemes_of e.front ++ token.End ∷ []
lexemes_end ts e = ap lexemes_of e.parts ∙ map-append lexeme_at e.front (end_at e.line ∷ [])
