-- The text of a printed script is a source of that script.
use Rattle.std.proofs.Common.{sym, subst, ℕ, zero, List, [], ◌∷◌, Ok}
use Rattle.std.specs.Str.{chars, IsUtf8}
use Rattle.py_lexer.specs.Columns.{margin}
use Rattle.py_lexer.specs.Source as source
use Rattle.py_lexer.specs.Source.{Tokens, without_mark}
use Rattle.py_lexer.specs.Tokens.{Lines}
use Rattle.py_parser.specs.Words.{lexemes_of}
use Rattle.py_syntax.specs.declared.lexeme.Lexeme.{Lexeme}
use Rattle.py_syntax.specs.declared.lexeme.Lexeme.TheVariants as token
use Rattle.py_syntax.specs.declared.stmt.Script.{Script}
use Rattle.py_syntax.specs.Grammar.{Spells}
use Rattle.source_print.specs.Statements.{printed}
use Rattle.source_print.proofs.Statements.{script_printed}
use Rattle.source_print.specs.Lines as line
use Rattle.source_print.specs.Lines.{Held, IsPlain, Row, Laid, Lined}
use Rattle.source_print.proofs.LaidRows.{held_front, held_back}
use Rattle.source_print.proofs.LaidStatements.{script_laid}
use Rattle.source_print.specs.Text.{text_of}
use Rattle.source_print.specs.TextLaws.{Utf8, PrintsBack}
use Rattle.source_print.proofs.Rows.{Again}
use Rattle.source_print.proofs.Lines.{text_read, text_unmarked}
use Rattle.source_print.proofs.Words.{fixed_again, parens, brackets}
use Rattle.source_print.proofs.NameTexts.{name_again, number_again}
use Rattle.source_print.proofs.Strings.{string_again}
use Rattle.source_print.proofs.Sources.{Writable, tokens_writable}

-- what a lexeme of a source has, and that it is UTF-8
abbrev Both : Lexeme → Type 0
Both t = Writable t × Utf8 t

plain_both : (t : Lexeme) → IsPlain Writable t → Utf8 t → IsPlain Both t
plain_both t (line.name p) u = line.name (p, u)
plain_both t (line.number p) u = line.number (p, u)
plain_both t (line.string p) u = line.string (p, u)
plain_both t (line.fixed f) u = line.fixed f

row_both : (row : List Lexeme) → Row Writable row → Held Utf8 row → Row Both row
row_both row line.nothing u = line.nothing
row_both row (line.plain {t = t} {ts = ts} p r) u = line.plain (plain_both t p u.0) (row_both ts r u.1)
row_both row (line.parens {xs = xs} {ys = ys} h k) u = line.parens (row_both xs h (held_front Utf8 xs (token.CloseParen ∷ ys) u.1)) (row_both ys k (held_back Utf8 xs (token.CloseParen ∷ ys) u.1).1)
row_both row (line.brackets {xs = xs} {ys = ys} h k) u = line.brackets (row_both xs h (held_front Utf8 xs (token.CloseBracket ∷ ys) u.1)) (row_both ys k (held_back Utf8 xs (token.CloseBracket ∷ ys) u.1).1)

mutual
  laid_both : {depth : ℕ} {ts : List Lexeme} → Laid Writable depth ts → Held Utf8 ts → Laid Both depth ts
  laid_both line.finish u = line.finish
  laid_both (line.here l) u = line.here (lined_both l u)
  laid_both (line.back l) u = line.back (laid_both l u.1)

  lined_both : {depth : ℕ} {ts : List Lexeme} → Lined Writable depth ts → Held Utf8 ts → Lined Both depth ts
  lined_both (line.line {row = row} {ts = ts} r some l) u = line.line (row_both row r (held_front Utf8 row (token.Newline ∷ ts) u)) some (laid_both l (held_back Utf8 row (token.Newline ∷ ts) u).1)
  lined_both (line.opens {row = row} {ts = ts} r some l) u = line.opens (row_both row r (held_front Utf8 row (token.Newline ∷ token.Indent ∷ ts) u)) some (lined_both l (held_back Utf8 row (token.Newline ∷ token.Indent ∷ ts) u).1.1)

-- each of them is read again
again : (t : Lexeme) → IsPlain Both t → Again t
again t (line.name {n = n} p) = name_again n p.0 p.1
again t (line.number p) = subst (λ z. Again (token.Number z)) (sym p.0.1) (number_again p.0.0 p.0.2)
again t (line.string {s = s} p) = string_again s p.1
again t (line.fixed f) = fixed_again t f

pub prints_back : (s : Script) → Held Utf8 (printed s) → IsUtf8 (text_of (printed s)) → PrintsBack (text_of (printed s)) s
prints_back s held utf8 src from fits =
    let laid : Laid Both zero (printed s) = laid_both (script_laid Writable 64 (lexemes_of from.tokens) s from.spelled (tokens_writable src from.tokens from.lexed)) held in
    let read = text_read Both again parens brackets laid in
    let lines : Lines (margin ∷ []) 1 (without_mark (chars (text_of (printed s)))) (Ok read.0) =
    subst (λ cs. Lines (margin ∷ []) 1 cs (Ok read.0)) (sym (text_unmarked Both again parens brackets laid)) read.2
    in
    record {
      tokens = read.0;
      lexed = source.text fits utf8 lines;
      spelled = subst (λ ls. Spells 64 ls s) (sym read.1) (script_printed 64 (lexemes_of from.tokens) s from.spelled);
    }
