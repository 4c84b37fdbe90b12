-- A printed line is read as its lexemes.
use Rattle.std.proofs.Common.{◌≡◌, ◌∙◌, refl, sym, ap, subst, ℕ, ◌+◌, ◌<◌, Bool, true, false, List, [], ◌∷◌, ◌++◌, append_assoc, arith, codes}
use Rattle.std.specs.Str.{chars}
use Rattle.std.proofs.lemmas.Bool.{lt-ltb}
use Rattle.std.proofs.lemmas.List.{map-append}
use Rattle.py_lexer.specs.declared.chars.Class.TheVariants.{White}
use Rattle.py_lexer.specs.declared.word.Tok.{Tok}
use Rattle.py_lexer.specs.declared.word.Token.{Token}
use Rattle.py_lexer.specs.Chars.{class_of}
use Rattle.py_lexer.specs.Gaps as gaps
use Rattle.py_lexer.specs.TokenList.{mark, depth_after}
use Rattle.py_lexer.specs.Tokens as tokens
use Rattle.py_lexer.specs.Tokens.{Piece, Pieces}
use Rattle.py_lexer.specs.Words.{Reads}
use Rattle.py_parser.specs.Words.{lexeme_of, lexeme_at, lexemes_of}
use Rattle.py_syntax.specs.declared.lexeme.Lexeme.{Lexeme}
use Rattle.py_syntax.specs.declared.lexeme.Lexeme.TheVariants as token
use Rattle.source_print.specs.Lines as line
use Rattle.source_print.specs.Lines.{Held, IsPlain, is_fixed, Row}
use Rattle.source_print.specs.Spelling.{spelled}
use Rattle.source_print.specs.Text.{lead, rendered}

-- a character below 128 is a byte
pub ascii_char : (b : ℕ) (bs : List ℕ) → b < 128 → chars (b ∷ bs) ≡ b ∷ chars bs
unfolding chars
ascii_char b [] h = let l = lt-ltb b 128 h in rw l refl
ascii_char b (c ∷ cs) h = let l = lt-ltb b 128 h in rw l refl

-- what comes behind a lexeme: a blank or a line end
pub data Follows : List ℕ → Type 0 where
  blank : (bs : List ℕ) → Follows (32 ∷ bs)
  line_end : (bs : List ℕ) → Follows (10 ∷ bs)

-- the lexeme is read again, and the open brackets become so many
pub record IsRead (t : Lexeme) (before after : ℕ) (rest : List ℕ) : Type 0 where
  pub tok : Tok
  pub same : lexeme_of tok ≡ t
  pub depth : depth_after tok before ≡ after
  pub reads : Reads (chars (spelled t ++ rest)) tok 0 (chars rest)

-- whatever comes behind it
abbrev pub Again : Lexeme → Type 0
Again t = (depth : ℕ) (rest : List ℕ) → Follows rest → IsRead t depth depth rest

-- ---- what is rendered

plain_rendered : (t : Lexeme) → is_fixed t ≡ true → (depth : ℕ) (first : Bool) (ts : List Lexeme) → rendered depth first (t ∷ ts) ≡ lead depth first ++ (spelled t ++ rendered depth false ts)
unfolding is_fixed rendered
plain_rendered token.Newline f depth first ts = absurd cc
plain_rendered token.Indent f depth first ts = absurd cc
plain_rendered token.Dedent f depth first ts = absurd cc
plain_rendered token.End f depth first ts = absurd cc
plain_rendered t f depth first ts = refl

module _ (P : Lexeme → Type 0) where
  pub is_rendered : (t : Lexeme) → IsPlain P t → (depth : ℕ) (first : Bool) (ts : List Lexeme) → rendered depth first (t ∷ ts) ≡ lead depth first ++ (spelled t ++ rendered depth false ts)
  unfolding rendered
  is_rendered t (line.name p) depth first ts = refl
  is_rendered t (line.number p) depth first ts = refl
  is_rendered t (line.string p) depth first ts = refl
  is_rendered t (line.fixed f) depth first ts = plain_rendered t f depth first ts

  pub follows : (depth : ℕ) (row : List Lexeme) → Row P row → (ts : List Lexeme) → Follows (rendered depth false ts) → Follows (rendered depth false (row ++ ts))
  unfolding rendered
  follows depth row line.nothing ts f = f
  follows depth row (line.plain {t = t} {ts = us} p r) ts f = subst Follows (sym (is_rendered t p depth false (us ++ ts))) (blank (spelled t ++ rendered depth false (us ++ ts)))
  follows depth row (line.parens {xs = xs} {ys = ys} h k) ts f = blank (codes "(" ++ rendered depth false ((xs ++ token.CloseParen ∷ ys) ++ ts))
  follows depth row (line.brackets {xs = xs} {ys = ys} h k) ts f = blank (codes "[" ++ rendered depth false ((xs ++ token.CloseBracket ∷ ys) ++ ts))

-- ---- pieces

pieces_behind : {d1 l1 d2 l2 d3 l3 : ℕ} {text after rest : List ℕ} {ts us : List Token} → Pieces d1 l1 text ts d2 l2 after → Pieces d2 l2 after us d3 l3 rest → Pieces d1 l1 text (ts ++ us) d3 l3 rest
pieces_behind tokens.none q = q
pieces_behind {d1 = d1} {l1 = l1} {d3 = d3} {l3 = l3} {text = text} {rest = rest} {us = vs} (tokens.more {ts = ts} {us = us} p h) q = subst (λ ws. Pieces d1 l1 text ws d3 l3 rest) (sym (append_assoc ts us vs)) (tokens.more p (pieces_behind h q))

-- the tokens of these lexemes stand at the front, and so many brackets are open behind them
pub record Row_read (before after line : ℕ) (text : List ℕ) (ls : List Lexeme) (rest : List ℕ) : Type 0 where
  pub found : List Token
  pub same : lexemes_of found ≡ ls
  pub pieces : Pieces before line (chars text) found after line (chars rest)

pub nothing_read : (depth line : ℕ) (text : List ℕ) → Row_read depth depth line text [] text
nothing_read depth line text = record { found = []; same = refl; pieces = tokens.none }

white_class : class_of 32 ≡ White
unfolding class_of
white_class = refl

-- a blank before
pub blank_read : {before after line : ℕ} {text : List ℕ} {ls : List Lexeme} {rest : List ℕ} → Row_read before after line text ls rest → Row_read before after line (32 ∷ text) ls rest
blank_read {before = before} {after = after} {line = at} {text = text} {rest = rest} r =
    let white : Piece before at (32 ∷ chars text) [] before at (chars text) = tokens.blank (gaps.white white_class) in
    record { found = r.found; same = r.same; pieces = subst (λ cs. Pieces before at cs r.found after at (chars rest)) (sym (ascii_char 32 text (omega arith))) (tokens.more white r.pieces) }

-- a lexeme, and then others
pub then_read : {before middle after line : ℕ} {t : Lexeme} {behind : List ℕ} {ls : List Lexeme} {rest : List ℕ} → IsRead t before middle behind → Row_read middle after line behind ls rest → Row_read before after line (spelled t ++ behind) (t ∷ ls) rest
then_read {before = before} {middle = middle} {after = after} {line = at} {t = t} {behind = behind} {ls = ls} {rest = rest} i r =
    let same_line : at + 0 ≡ at = omega arith in
    let piece : Piece before at (chars (spelled t ++ behind)) (mark i.tok at) middle at (chars behind) =
    subst (λ n. Piece before at (chars (spelled t ++ behind)) (mark i.tok at) middle n (chars behind)) same_line
    (subst (λ d. Piece before at (chars (spelled t ++ behind)) (mark i.tok at) d (at + 0) (chars behind)) i.depth (tokens.token i.reads)) in
    record { found = mark i.tok at ++ r.found; same = ap (λ u. u ∷ lexemes_of r.found) i.same ∙ ap (λ us. t ∷ us) r.same; pieces = tokens.more piece r.pieces }

-- and others behind these
pub both_read : {before middle after line : ℕ} {text between : List ℕ} {ls ms : List Lexeme} {rest : List ℕ} → Row_read before middle line text ls between → Row_read middle after line between ms rest → Row_read before after line text (ls ++ ms) rest
both_read {ls = ls} r q = record { found = r.found ++ q.found; same = map-append lexeme_at r.found q.found ∙ ap (λ us. us ++ lexemes_of q.found) r.same ∙ ap (λ us. ls ++ us) q.same; pieces = pieces_behind r.pieces q.pieces }
