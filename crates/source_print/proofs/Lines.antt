-- Printed lines are read as their lexemes, with Indent and Dedent where blocks begin and end.
use Rattle.std.proofs.Common.{◌≡◌, ◌∙◌, refl, sym, ap, subst, ℕ, zero, suc, ◌+◌, ◌-◌, ◌<◌, Bool, true, false, List, [], ◌∷◌, ◌++◌, append_assoc, length, ◌⊎◌, inl, inr, arith, IsTrue, IsFalse, Ok}
use Rattle.std.specs.Str.{chars}
use Rattle.std.specs.List.{AllByRecursion}
use Rattle.std.proofs.lemmas.Bool.{cond-true, cond-false, ne_eqb, false_from_ne_true}
use Rattle.std.proofs.lemmas.List.{map-append}
use Rattle.unicode_ident.proofs.Computing.{unicode_ident}
use Rattle.py_lexer.specs.declared.columns.Columns.{Columns}
use Rattle.py_lexer.specs.declared.chars.Class.{Class}
use Rattle.py_lexer.specs.declared.chars.Class.TheVariants.{White, Digit, Quote, Letter, Other}
use Rattle.py_lexer.specs.declared.gap.Gap.TheVariants.{Ended}
use Rattle.py_lexer.specs.declared.indent.Change.{Change}
use Rattle.py_lexer.specs.declared.indent.Change.TheVariants.{Indent, Dedents}
use Rattle.py_lexer.specs.declared.word.Tok.{Tok}
use Rattle.py_lexer.specs.declared.word.Tok.TheVariants as tok
use Rattle.py_lexer.specs.declared.word.Token.{Token}
use Rattle.py_lexer.specs.Chars as chars
use Rattle.py_lexer.specs.Chars.{class_of, is_white, head_passes, IsRun}
use Rattle.py_lexer.specs.Columns.{margin}
use Rattle.py_lexer.specs.Gaps as gaps
use Rattle.py_lexer.specs.Gaps.{Stands}
use Rattle.py_lexer.specs.Indent.{settled}
use Rattle.py_lexer.specs.TokenList.{mark, dedents, marks, closing}
use Rattle.py_lexer.specs.Tokens as tokens
use Rattle.py_lexer.specs.Tokens.{Start, Lines}
use Rattle.py_lexer.specs.Words as words
use Rattle.py_lexer.specs.Words.{Reads, begins, begins_token}
use Rattle.py_lexer.specs.Operators.{is_operator_of_three, is_operator_of_two, is_operator_of_one, op_len}
use Rattle.py_lexer.specs.Source.{without_mark}
use Rattle.py_lexer.proofs.Words.{word_begins}
use Rattle.py_parser.specs.Words.{lexeme_at, lexemes_of}
use Rattle.py_syntax.specs.declared.lexeme.Lexeme.{Lexeme}
use Rattle.py_syntax.specs.declared.lexeme.Lexeme.TheVariants as token
use Rattle.source_print.specs.Lines as line
use Rattle.source_print.specs.Lines.{IsPlain, Row, Laid, Lined}
use Rattle.source_print.specs.Spelling.{spelled}
use Rattle.source_print.specs.Text.{lead, rendered, indentation}
use Rattle.source_print.proofs.Columns.{columns, stack_of, stack_length, up, up_suc, up_zero, indented, deeper, back}
use Rattle.source_print.proofs.Rows.{ascii_char, Follows, blank, line_end, IsRead, Again, is_rendered, follows, Row_read, nothing_read, blank_read, then_read, both_read}

-- ---- no token begins with the mark U+FEFF

other_class : class_of 65279 ≡ Other
unfolding class_of unicode_ident
other_class = refl

no_sign : (cs : List ℕ) → op_len (65279 ∷ cs) ≡ 0
unfolding op_len is_operator_of_three is_operator_of_two is_operator_of_one
no_sign cs = refl

not_mark : (c : ℕ) (cs : List ℕ) → (c ≡ 65279 → ⊥) → without_mark (c ∷ cs) ≡ c ∷ cs
unfolding without_mark
not_mark c cs h = cond-false _ _ _ (ne_eqb c 65279 h)

other_only : (c : ℕ) (k : Class) → class_of c ≡ k → (Other ≡ k → ⊥) → c ≡ 65279 → ⊥
other_only c k h n e = n (sym other_class ∙ ap class_of (sym e) ∙ h)

reads_unmarked : {text : List ℕ} {t : Tok} {n : ℕ} {after : List ℕ} → Reads text t n after → without_mark text ≡ text
reads_unmarked (words.name {c = c} {run = run} {after = after} k r h) = not_mark c (run ++ after) (other_only c Letter k (λ e. absurd cc))
reads_unmarked (words.number {c = c} {run = run} {after = after} k r d h w) = not_mark c (run ++ after) (other_only c Digit k (λ e. absurd cc))
reads_unmarked (words.operator {c = c} {after = after} op k e) = not_mark c (op ++ after) (λ is. let long = sym (no_sign (op ++ after)) ∙ ap (λ x. op_len (x ∷ (op ++ after))) (sym is) ∙ e in absurd (omega (arith, long)))
reads_unmarked (words.quoted {c = c} {cs = cs} k b) = not_mark c cs (other_only c Quote k (λ e. absurd cc))

-- ---- a line

-- what stands at the front of a line, and that its lexemes are read
record Begun (depth : ℕ) (row ts : List Lexeme) (open_brackets at : ℕ) : Type 0 where
  body : List ℕ
  is : (first : Bool) → rendered depth first (row ++ ts) ≡ lead depth first ++ body
  read : Row_read open_brackets open_brackets at body row (rendered depth false ts)
  starts : IsTrue (begins_token (chars body))
  unmarked : without_mark (chars body) ≡ chars body

abbrev Opening : List Lexeme → Type 0
Opening row = (depth open_brackets at : ℕ) (ts : List Lexeme) → Follows (rendered depth false ts) → Begun depth row ts open_brackets at

inner : (row : List Lexeme) → (row ≡ []) ⊎ Opening row → (depth open_brackets at : ℕ) (ts : List Lexeme) → Follows (rendered depth false ts) → Row_read open_brackets open_brackets at (rendered depth false (row ++ ts)) row (rendered depth false ts)
inner row (inl e) depth k at ts f = subst (λ r. Row_read k k at (rendered depth false (r ++ ts)) r (rendered depth false ts)) (sym e) (nothing_read k at (rendered depth false ts))
inner row (inr o) depth k at ts f =
    let b = o depth k at ts f in
    subst (λ text. Row_read k k at text row (rendered depth false ts)) (sym (b.is false)) (blank_read b.read)

-- an opening bracket and its closing one
pub record Bracket (opening closing : Lexeme) : Type 0 where
  pub opens : (depth : ℕ) (rest : List ℕ) → IsRead opening depth (suc depth) rest
  pub closes : (depth : ℕ) (rest : List ℕ) → Follows rest → IsRead closing (suc depth) depth rest
  pub opening_is : (depth : ℕ) (first : Bool) (ts : List Lexeme) → rendered depth first (opening ∷ ts) ≡ lead depth first ++ (spelled opening ++ rendered depth false ts)
  pub closing_is : (depth : ℕ) (first : Bool) (ts : List Lexeme) → rendered depth first (closing ∷ ts) ≡ lead depth first ++ (spelled closing ++ rendered depth false ts)

bracket_reads : (o c : Lexeme) → Bracket o c → (xs ys : List Lexeme) → (xs ≡ []) ⊎ Opening xs → (ys ≡ []) ⊎ Opening ys → ((depth : ℕ) (ts : List Lexeme) → Follows (rendered depth false ts) → Follows (rendered depth false (ys ++ ts))) → Opening (o ∷ (xs ++ c ∷ ys))
bracket_reads o c b xs ys h q go depth k at ts f =
    let behind : List ℕ = rendered depth false (ys ++ ts) in
    let last : Row_read k k at behind ys (rendered depth false ts) = inner ys q depth k at ts f in
    let closing : Row_read (suc k) k at (rendered depth false (c ∷ (ys ++ ts))) (c ∷ ys) (rendered depth false ts) =
    subst (λ text. Row_read (suc k) k at text (c ∷ ys) (rendered depth false ts)) (sym (b.closing_is depth false (ys ++ ts))) (blank_read (then_read (b.closes k behind (go depth ts f)) last)) in
    let comes : Follows (rendered depth false (c ∷ (ys ++ ts))) = subst Follows (sym (b.closing_is depth false (ys ++ ts))) (blank (spelled c ++ behind)) in
    let inside : Row_read (suc k) (suc k) at (rendered depth false (xs ++ c ∷ (ys ++ ts))) xs (rendered depth false (c ∷ (ys ++ ts))) = inner xs h depth (suc k) at (c ∷ (ys ++ ts)) comes in
    let same : (xs ++ c ∷ ys) ++ ts ≡ xs ++ c ∷ (ys ++ ts) = append_assoc xs (c ∷ ys) ts in
    let text : List ℕ = rendered depth false (xs ++ c ∷ (ys ++ ts)) in
    let opened : IsRead o k (suc k) text = b.opens k text in
    record {
      body = spelled o ++ text;
      is = λ first. b.opening_is depth first ((xs ++ c ∷ ys) ++ ts) ∙ ap (λ us. lead depth first ++ (spelled o ++ rendered depth false us)) same;
      read = then_read opened (both_read inside closing);
      starts = word_begins opened.reads;
      unmarked = reads_unmarked opened.reads;
    }

module _ (P : Lexeme → Type 0) (again : (t : Lexeme) → IsPlain P t → Again t) (parens : Bracket token.OpenParen token.CloseParen) (brackets : Bracket token.OpenBracket token.CloseBracket) where
  row_reads : (row : List Lexeme) → Row P row → (row ≡ []) ⊎ Opening row
  row_reads row line.nothing = inl refl
  row_reads row (line.plain {t = t} {ts = us} p r) = inr (λ depth k at ts f.
      let rest : Row_read k k at (rendered depth false (us ++ ts)) us (rendered depth false ts) = inner us (row_reads us r) depth k at ts f in
      let i : IsRead t k k (rendered depth false (us ++ ts)) = again t p k (rendered depth false (us ++ ts)) (follows P depth us r ts f) in
      record { body = spelled t ++ rendered depth false (us ++ ts); is = λ first. is_rendered P t p depth first (us ++ ts); read = then_read i rest; starts = word_begins i.reads; unmarked = reads_unmarked i.reads })
  row_reads row (line.parens {xs = xs} {ys = ys} h q) = inr (bracket_reads token.OpenParen token.CloseParen parens xs ys (row_reads xs h) (row_reads ys q) (λ depth ts f. follows P depth ys q ts f))
  row_reads row (line.brackets {xs = xs} {ys = ys} h q) = inr (bracket_reads token.OpenBracket token.CloseBracket brackets xs ys (row_reads xs h) (row_reads ys q) (λ depth ts f. follows P depth ys q ts f))

  opening_of : (row : List Lexeme) → Row P row → 0 < length row → Opening row
  opening_of [] r h = absurd (omega (arith, h))
  opening_of (t ∷ row) r h = some_opening t row (row_reads (t ∷ row) r)
    where
      some_opening : (u : Lexeme) (us : List Lexeme) → (u ∷ us ≡ []) ⊎ Opening (u ∷ us) → Opening (u ∷ us)
      some_opening u us (inl e) = absurd cc
      some_opening u us (inr o) = o

-- ---- the start of a line

indentation_white : (depth : ℕ) → AllByRecursion (λ c. IsTrue (is_white c)) (indentation depth)
indentation_white zero = tt
indentation_white (suc depth) = (refl, (refl, (refl, (refl, indentation_white depth))))

class_white : (c : ℕ) → is_white c ≡ true → class_of c ≡ White
unfolding class_of
class_white c w = cond-true _ _ _ w

not_white : (cs : List ℕ) → IsTrue (begins_token cs) → IsFalse (head_passes is_white cs)
not_white [] h = absurd cc
not_white (c ∷ cs) h = false_from_ne_true (is_white c) (λ w.
    let white : begins_token (c ∷ cs) ≡ false = ap (λ k. begins k cs) (class_white c w) in
    absurd cc)

indented_chars : (depth : ℕ) (body : List ℕ) → chars (indentation depth ++ body) ≡ indentation depth ++ chars body
indented_chars zero body = refl
indented_chars (suc depth) body =
    ascii_char 32 (32 ∷ 32 ∷ 32 ∷ (indentation depth ++ body)) (omega arith)
    ∙ ap (λ cs. 32 ∷ cs) (ascii_char 32 (32 ∷ 32 ∷ (indentation depth ++ body)) (omega arith)
    ∙ ap (λ cs. 32 ∷ cs) (ascii_char 32 (32 ∷ (indentation depth ++ body)) (omega arith)
    ∙ ap (λ cs. 32 ∷ cs) (ascii_char 32 (indentation depth ++ body) (omega arith) ∙ ap (λ cs. 32 ∷ cs) (indented_chars depth body))))

started : (depth at : ℕ) (body : List ℕ) → IsTrue (begins_token (chars body)) → Start at (chars (indentation depth ++ body)) (columns depth) at (chars body)
started depth at body h =
    subst (λ cs. Start at cs (columns depth) at (chars body)) (sym (indented_chars depth body))
    (subst (λ c. Start at (indentation depth ++ chars body) c at (chars body)) (indented depth)
    (tokens.start {white = indentation depth} (record { all = indentation_white depth; longest = not_white (chars body) h }) tokens.none))

-- ---- lines

-- the text is read as these lexemes
record Text_read (stack : List Columns) (at : ℕ) (text : List ℕ) (ls : List Lexeme) : Type 0 where
  found : List Token
  same : lexemes_of found ≡ ls
  lines : Lines stack at (chars text) (Ok found)

ended : (rest : List ℕ) → Stands (chars (10 ∷ rest)) Ended (chars rest)
ended rest = subst (λ cs. Stands cs Ended (chars rest)) (sym (ascii_char 10 rest (omega arith))) (gaps.line_end chars.lf)

-- a whole line, and what is behind it
line_read : (stack : List Columns) (change : Change) (depth at : ℕ) (row ts ls : List Lexeme) → settled stack (columns depth) ≡ Ok (change, stack_of depth)
    → Begun depth row (token.Newline ∷ ts) 0 at → Text_read (stack_of depth) (at + 1) (rendered depth true ts) ls
    → Text_read stack at (rendered depth true (row ++ token.Newline ∷ ts)) (lexemes_of (marks change at) ++ (row ++ token.Newline ∷ ls))
unfolding rendered
line_read stack change depth at row ts ls settles b rest =
    let found : List Token = marks change at ++ (b.read.found ++ (mark tok.Newline at ++ rest.found)) in
    let whole : Lines stack at (chars (indentation depth ++ b.body)) (Ok found) =
    tokens.logical (started depth at b.body b.starts) b.starts settles b.read.pieces (ended (rendered depth true ts)) rest.lines in
    record {
      found = found;
      same =
          map-append lexeme_at (marks change at) (b.read.found ++ (mark tok.Newline at ++ rest.found))
          ∙ ap (λ us. lexemes_of (marks change at) ++ us) (map-append lexeme_at b.read.found (mark tok.Newline at ++ rest.found) ∙ ap (λ us. us ++ token.Newline ∷ lexemes_of rest.found) b.read.same ∙ ap (λ us. row ++ token.Newline ∷ us) rest.same);
      lines = subst (λ text. Lines stack at (chars text) (Ok found)) (sym (b.is true)) whole;
    }

abbrev dedent_lexemes : ℕ → List Lexeme
dedent_lexemes zero = []
dedent_lexemes (suc n) = token.Dedent ∷ dedent_lexemes n

dedents_are : (n at : ℕ) → lexemes_of (dedents n at) ≡ dedent_lexemes n
dedents_are zero at = refl
dedents_are (suc n) at = ap (λ us. token.Dedent ∷ us) (dedents_are n at)

dedents_end : (n : ℕ) (ts : List Lexeme) → token.Dedent ∷ (dedent_lexemes n ++ ts) ≡ dedent_lexemes n ++ token.Dedent ∷ ts
dedents_end zero ts = refl
dedents_end (suc n) ts = ap (λ us. token.Dedent ∷ us) (dedents_end n ts)

chars_nil : chars [] ≡ []
unfolding chars
chars_nil = refl

-- the end of the text
end_read : (n at : ℕ) → Text_read (stack_of (up n zero)) at (rendered zero true (token.End ∷ [])) (dedent_lexemes n ++ token.End ∷ [])
unfolding rendered
end_read n at =
    let levels : length (stack_of (up n zero)) - 1 ≡ n = let h = stack_length (up n zero) in let z = up_zero n in omega (arith, h, z) in
    let start : Start at [] margin at [] = tokens.start {white = []} (record { all = tt; longest = refl }) tokens.none in
    record {
      found = closing (stack_of (up n zero)) at;
      same = map-append lexeme_at (dedents (length (stack_of (up n zero)) - 1) at) (mark tok.End at) ∙ ap (λ us. us ++ token.End ∷ []) (dedents_are (length (stack_of (up n zero)) - 1) at) ∙ ap (λ k. dedent_lexemes k ++ token.End ∷ []) levels;
      lines = subst (λ cs. Lines (stack_of (up n zero)) at cs (Ok (closing (stack_of (up n zero)) at))) (sym chars_nil) (tokens.finished start);
    }

newline_follows : (depth : ℕ) (ts : List Lexeme) → Follows (rendered depth false (token.Newline ∷ ts))
unfolding rendered
newline_follows depth ts = line_end (rendered depth true ts)

row_unmarked : (row ts : List Lexeme) → Begun 0 row ts 0 1 → without_mark (chars (rendered 0 true (row ++ ts))) ≡ chars (rendered 0 true (row ++ ts))
row_unmarked row ts b = ap (λ text. without_mark (chars text)) (b.is true) ∙ b.unmarked ∙ sym (ap chars (b.is true))

module _ (P : Lexeme → Type 0) (again : (t : Lexeme) → IsPlain P t → Again t) (parens : Bracket token.OpenParen token.CloseParen) (brackets : Bracket token.OpenBracket token.CloseBracket) where
  mutual
    unfolding rendered

    lined_read : {depth : ℕ} {ts : List Lexeme} → Lined P depth ts → (stack : List Columns) (change : Change) (at : ℕ) → settled stack (columns depth) ≡ Ok (change, stack_of depth) → Text_read stack at (rendered depth true ts) (lexemes_of (marks change at) ++ ts)
    lined_read (line.line {depth = depth} {row = row} {ts = ts} r some l) stack change at settles =
        line_read stack change depth at row ts ts settles (opening_of P again parens brackets row r some depth 0 at (token.Newline ∷ ts) (newline_follows depth ts)) (laid_read l 0 (at + 1))
    lined_read (line.opens {depth = depth} {row = row} {ts = ts} r some l) stack change at settles =
        line_read stack change depth at row (token.Indent ∷ ts) (token.Indent ∷ ts) settles (opening_of P again parens brackets row r some depth 0 at (token.Newline ∷ token.Indent ∷ ts) (newline_follows depth (token.Indent ∷ ts))) (lined_read l (stack_of depth) Indent (at + 1) (deeper depth))

    laid_read : {depth : ℕ} {ts : List Lexeme} → Laid P depth ts → (n at : ℕ) → Text_read (stack_of (up n depth)) at (rendered depth true ts) (dedent_lexemes n ++ ts)
    laid_read line.finish n at = end_read n at
    laid_read (line.here {depth = depth} {ts = ts} l) n at = subst (λ us. Text_read (stack_of (up n depth)) at (rendered depth true ts) (us ++ ts)) (dedents_are n at) (lined_read l (stack_of (up n depth)) (Dedents n) at (back n depth))
    laid_read (line.back {depth = depth} {ts = ts} l) n at =
        let less : suc depth - 1 ≡ depth = omega arith in
        subst (λ us. Text_read (stack_of (up n (suc depth))) at (rendered (suc depth - 1) true ts) us) (dedents_end n ts)
        (subst (λ d. Text_read (stack_of (up n (suc depth))) at (rendered d true ts) (token.Dedent ∷ (dedent_lexemes n ++ ts))) (sym less)
        (subst (λ d. Text_read (stack_of d) at (rendered depth true ts) (token.Dedent ∷ (dedent_lexemes n ++ ts))) (sym (up_suc n depth)) (laid_read l (suc n) at)))

  -- the tokens of a whole text
  pub text_read : {ts : List Lexeme} → Laid P zero ts → (found : List Token) × (lexemes_of found ≡ ts) × Lines (margin ∷ []) 1 (chars (rendered 0 true ts)) (Ok found)
  text_read l = let r = laid_read l 0 1 in (r.found, r.same, r.lines)

  -- it begins with no mark
  pub text_unmarked : {ts : List Lexeme} → Laid P zero ts → without_mark (chars (rendered 0 true ts)) ≡ chars (rendered 0 true ts)
  unfolding rendered chars without_mark
  text_unmarked line.finish = refl
  text_unmarked (line.here (line.line {row = row} {ts = ts} r some l)) = row_unmarked row (token.Newline ∷ ts) (opening_of P again parens brackets row r some 0 0 1 (token.Newline ∷ ts) (newline_follows 0 ts))
  text_unmarked (line.here (line.opens {row = row} {ts = ts} r some l)) = row_unmarked row (token.Newline ∷ token.Indent ∷ ts) (opening_of P again parens brackets row r some 0 0 1 (token.Newline ∷ token.Indent ∷ ts) (newline_follows 0 (token.Indent ∷ ts)))
