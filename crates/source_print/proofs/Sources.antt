-- What the tokens of a source can be: its names are identifiers in their normal form, its numbers fit.
use Rattle.std.proofs.Common.{◌≡◌, refl, ℕ, zero, suc, ◌-◌, ◌^◌, ◌<◌, pos, Bool, true, false, List, [], ◌∷◌, ◌++◌, length, Option, Some, None, Ok, Err, codes, if◌then◌else◌}
use Rattle.std.specs.Option.{option_or}
use Rattle.std.specs.Str.{chars}
use Rattle.spec_core.specs.Identifiers.{is_keyword}
use Rattle.py_lexer.specs.declared.columns.Columns.{Columns}
use Rattle.py_lexer.specs.declared.indent.Change.{Change}
use Rattle.py_lexer.specs.declared.indent.Change.TheVariants.{Indent, Dedents}
use Rattle.py_lexer.specs.declared.word.Tok.{Tok}
use Rattle.py_lexer.specs.declared.word.Tok.TheVariants as tok
use Rattle.py_lexer.specs.declared.word.Token.{Token}
use Rattle.py_lexer.specs.Names.{ident_text}
use Rattle.py_lexer.specs.Source as source
use Rattle.py_lexer.specs.Source.{Answer, Tokens, answer_of}
use Rattle.py_lexer.specs.TokenList.{Outcome, before, mark, dedents, marks, closing, newline_at_end, utf8_of}
use Rattle.py_lexer.specs.Tokens as tokens
use Rattle.py_lexer.specs.Tokens.{Piece, Pieces, Lines}
use Rattle.py_lexer.specs.Words as words
use Rattle.py_lexer.specs.Words.{Reads}
use Rattle.py_lexer.proofs.Cases.{choice}
use Rattle.py_parser.specs.Words.{same_text, constant, word_of_expression, word_of_jump, word_of_import, word_of_block, keyword, sign_of_assignment, sign_of_comparison, sign_of_number, bracket, sign, named, lexeme_of, lexemes_of}
use Rattle.py_parser.specs.Words as lexemes
use Rattle.py_syntax.specs.declared.lexeme.Lexeme.{Lexeme}
use Rattle.py_syntax.specs.declared.lexeme.Lexeme.TheVariants as token
use Rattle.source_print.specs.Lines.{Held}
use Rattle.source_print.proofs.NameTexts.{IsName}

-- what a lexeme of a source has
abbrev pub Writable : Lexeme → Type 0
Writable (token.Name n) = IsName n
Writable (token.Number z) = (n : ℕ) × (z ≡ pos n) × (n < 2 ^ 127)
Writable t = Unit {0}

abbrev pub AllWritable : List Token → Type 0
AllWritable ts = Held Writable (lexemes_of ts)

-- ---- keywords and signs

abbrev IsFine : Option Lexeme → Type 0
IsFine None = Unit {0}
IsFine (Some t) = Writable t

if_fine : (b : Bool) (t : Lexeme) (o : Option Lexeme) → Writable t → IsFine o → IsFine (if b then Some t else o)
if_fine true t o h k = h
if_fine false t o h k = k

or_fine : (a b : Option Lexeme) → IsFine a → IsFine b → IsFine (option_or a b)
or_fine None b h k = k
or_fine (Some t) b h k = h

named_fine : (text : List ℕ) (o : Option Lexeme) → IsFine o → Writable (named text o)
named_fine text None h = tt
named_fine text (Some t) h = h

constant_fine : (text : List ℕ) → IsFine (constant text)
constant_fine text = if_fine (same_text text (codes "False")) token.False (if same_text text (codes "None") then Some token.None else if same_text text (codes "True") then Some token.True else None) tt (if_fine (same_text text (codes "None")) token.None (if same_text text (codes "True") then Some token.True else None) tt (if_fine (same_text text (codes "True")) token.True (None) tt tt))

word_of_expression_fine : (text : List ℕ) → IsFine (word_of_expression text)
word_of_expression_fine text = if_fine (same_text text (codes "and")) token.And (if same_text text (codes "in") then Some token.In else if same_text text (codes "is") then Some token.Is else if same_text text (codes "not") then Some token.Not else if same_text text (codes "or") then Some token.Or else None) tt (if_fine (same_text text (codes "in")) token.In (if same_text text (codes "is") then Some token.Is else if same_text text (codes "not") then Some token.Not else if same_text text (codes "or") then Some token.Or else None) tt (if_fine (same_text text (codes "is")) token.Is (if same_text text (codes "not") then Some token.Not else if same_text text (codes "or") then Some token.Or else None) tt (if_fine (same_text text (codes "not")) token.Not (if same_text text (codes "or") then Some token.Or else None) tt (if_fine (same_text text (codes "or")) token.Or (None) tt tt))))

word_of_jump_fine : (text : List ℕ) → IsFine (word_of_jump text)
word_of_jump_fine text = if_fine (same_text text (codes "break")) token.Break (if same_text text (codes "continue") then Some token.Continue else if same_text text (codes "del") then Some token.Del else if same_text text (codes "pass") then Some token.Pass else if same_text text (codes "raise") then Some token.Raise else if same_text text (codes "return") then Some token.Return else None) tt (if_fine (same_text text (codes "continue")) token.Continue (if same_text text (codes "del") then Some token.Del else if same_text text (codes "pass") then Some token.Pass else if same_text text (codes "raise") then Some token.Raise else if same_text text (codes "return") then Some token.Return else None) tt (if_fine (same_text text (codes "del")) token.Del (if same_text text (codes "pass") then Some token.Pass else if same_text text (codes "raise") then Some token.Raise else if same_text text (codes "return") then Some token.Return else None) tt (if_fine (same_text text (codes "pass")) token.Pass (if same_text text (codes "raise") then Some token.Raise else if same_text text (codes "return") then Some token.Return else None) tt (if_fine (same_text text (codes "raise")) token.Raise (if same_text text (codes "return") then Some token.Return else None) tt (if_fine (same_text text (codes "return")) token.Return (None) tt tt)))))

word_of_import_fine : (text : List ℕ) → IsFine (word_of_import text)
word_of_import_fine text = if_fine (same_text text (codes "as")) token.As (if same_text text (codes "from") then Some token.From else if same_text text (codes "global") then Some token.Global else if same_text text (codes "import") then Some token.Import else None) tt (if_fine (same_text text (codes "from")) token.From (if same_text text (codes "global") then Some token.Global else if same_text text (codes "import") then Some token.Import else None) tt (if_fine (same_text text (codes "global")) token.Global (if same_text text (codes "import") then Some token.Import else None) tt (if_fine (same_text text (codes "import")) token.Import (None) tt tt)))

word_of_block_fine : (text : List ℕ) → IsFine (word_of_block text)
word_of_block_fine text = if_fine (same_text text (codes "def")) token.Def (if same_text text (codes "elif") then Some token.Elif else if same_text text (codes "else") then Some token.Else else if same_text text (codes "except") then Some token.Except else if same_text text (codes "finally") then Some token.Finally else if same_text text (codes "if") then Some token.If else if same_text text (codes "try") then Some token.Try else if same_text text (codes "while") then Some token.While else None) tt (if_fine (same_text text (codes "elif")) token.Elif (if same_text text (codes "else") then Some token.Else else if same_text text (codes "except") then Some token.Except else if same_text text (codes "finally") then Some token.Finally else if same_text text (codes "if") then Some token.If else if same_text text (codes "try") then Some token.Try else if same_text text (codes "while") then Some token.While else None) tt (if_fine (same_text text (codes "else")) token.Else (if same_text text (codes "except") then Some token.Except else if same_text text (codes "finally") then Some token.Finally else if same_text text (codes "if") then Some token.If else if same_text text (codes "try") then Some token.Try else if same_text text (codes "while") then Some token.While else None) tt (if_fine (same_text text (codes "except")) token.Except (if same_text text (codes "finally") then Some token.Finally else if same_text text (codes "if") then Some token.If else if same_text text (codes "try") then Some token.Try else if same_text text (codes "while") then Some token.While else None) tt (if_fine (same_text text (codes "finally")) token.Finally (if same_text text (codes "if") then Some token.If else if same_text text (codes "try") then Some token.Try else if same_text text (codes "while") then Some token.While else None) tt (if_fine (same_text text (codes "if")) token.If (if same_text text (codes "try") then Some token.Try else if same_text text (codes "while") then Some token.While else None) tt (if_fine (same_text text (codes "try")) token.Try (if same_text text (codes "while") then Some token.While else None) tt (if_fine (same_text text (codes "while")) token.While (None) tt tt)))))))

sign_of_assignment_fine : (text : List ℕ) → IsFine (sign_of_assignment text)
sign_of_assignment_fine text = if_fine (same_text text (codes "=")) token.Assign (if same_text text (codes "+=") then Some token.PlusEq else if same_text text (codes "-=") then Some token.MinusEq else if same_text text (codes "*=") then Some token.StarEq else if same_text text (codes "//=") then Some token.SlashSlashEq else if same_text text (codes "%=") then Some token.PercentEq else None) tt (if_fine (same_text text (codes "+=")) token.PlusEq (if same_text text (codes "-=") then Some token.MinusEq else if same_text text (codes "*=") then Some token.StarEq else if same_text text (codes "//=") then Some token.SlashSlashEq else if same_text text (codes "%=") then Some token.PercentEq else None) tt (if_fine (same_text text (codes "-=")) token.MinusEq (if same_text text (codes "*=") then Some token.StarEq else if same_text text (codes "//=") then Some token.SlashSlashEq else if same_text text (codes "%=") then Some token.PercentEq else None) tt (if_fine (same_text text (codes "*=")) token.StarEq (if same_text text (codes "//=") then Some token.SlashSlashEq else if same_text text (codes "%=") then Some token.PercentEq else None) tt (if_fine (same_text text (codes "//=")) token.SlashSlashEq (if same_text text (codes "%=") then Some token.PercentEq else None) tt (if_fine (same_text text (codes "%=")) token.PercentEq (None) tt tt)))))

sign_of_comparison_fine : (text : List ℕ) → IsFine (sign_of_comparison text)
sign_of_comparison_fine text = if_fine (same_text text (codes "==")) token.EqEq (if same_text text (codes "!=") then Some token.NotEq else if same_text text (codes "<") then Some token.Less else if same_text text (codes "<=") then Some token.LessEq else if same_text text (codes ">") then Some token.Greater else if same_text text (codes ">=") then Some token.GreaterEq else None) tt (if_fine (same_text text (codes "!=")) token.NotEq (if same_text text (codes "<") then Some token.Less else if same_text text (codes "<=") then Some token.LessEq else if same_text text (codes ">") then Some token.Greater else if same_text text (codes ">=") then Some token.GreaterEq else None) tt (if_fine (same_text text (codes "<")) token.Less (if same_text text (codes "<=") then Some token.LessEq else if same_text text (codes ">") then Some token.Greater else if same_text text (codes ">=") then Some token.GreaterEq else None) tt (if_fine (same_text text (codes "<=")) token.LessEq (if same_text text (codes ">") then Some token.Greater else if same_text text (codes ">=") then Some token.GreaterEq else None) tt (if_fine (same_text text (codes ">")) token.Greater (if same_text text (codes ">=") then Some token.GreaterEq else None) tt (if_fine (same_text text (codes ">=")) token.GreaterEq (None) tt tt)))))

sign_of_number_fine : (text : List ℕ) → IsFine (sign_of_number text)
sign_of_number_fine text = if_fine (same_text text (codes "+")) token.Plus (if same_text text (codes "-") then Some token.Minus else if same_text text (codes "*") then Some token.Star else if same_text text (codes "//") then Some token.SlashSlash else if same_text text (codes "%") then Some token.Percent else None) tt (if_fine (same_text text (codes "-")) token.Minus (if same_text text (codes "*") then Some token.Star else if same_text text (codes "//") then Some token.SlashSlash else if same_text text (codes "%") then Some token.Percent else None) tt (if_fine (same_text text (codes "*")) token.Star (if same_text text (codes "//") then Some token.SlashSlash else if same_text text (codes "%") then Some token.Percent else None) tt (if_fine (same_text text (codes "//")) token.SlashSlash (if same_text text (codes "%") then Some token.Percent else None) tt (if_fine (same_text text (codes "%")) token.Percent (None) tt tt))))

bracket_fine : (text : List ℕ) → IsFine (bracket text)
bracket_fine text = if_fine (same_text text (codes "(")) token.OpenParen (if same_text text (codes ")") then Some token.CloseParen else if same_text text (codes "[") then Some token.OpenBracket else if same_text text (codes "]") then Some token.CloseBracket else None) tt (if_fine (same_text text (codes ")")) token.CloseParen (if same_text text (codes "[") then Some token.OpenBracket else if same_text text (codes "]") then Some token.CloseBracket else None) tt (if_fine (same_text text (codes "[")) token.OpenBracket (if same_text text (codes "]") then Some token.CloseBracket else None) tt (if_fine (same_text text (codes "]")) token.CloseBracket (None) tt tt)))

mark_fine : (text : List ℕ) → IsFine (lexemes.mark text)
mark_fine text = if_fine (same_text text (codes ",")) token.Comma (if same_text text (codes ":") then Some token.Colon else if same_text text (codes ";") then Some token.Semicolon else if same_text text (codes ".") then Some token.Dot else if same_text text (codes "...") then Some token.Ellipsis else None) tt (if_fine (same_text text (codes ":")) token.Colon (if same_text text (codes ";") then Some token.Semicolon else if same_text text (codes ".") then Some token.Dot else if same_text text (codes "...") then Some token.Ellipsis else None) tt (if_fine (same_text text (codes ";")) token.Semicolon (if same_text text (codes ".") then Some token.Dot else if same_text text (codes "...") then Some token.Ellipsis else None) tt (if_fine (same_text text (codes ".")) token.Dot (if same_text text (codes "...") then Some token.Ellipsis else None) tt (if_fine (same_text text (codes "...")) token.Ellipsis (None) tt tt))))

keyword_fine : (text : List ℕ) → IsFine (keyword text)
unfolding keyword
keyword_fine text =
    or_fine (constant text) _ (constant_fine text) (or_fine (word_of_expression text) _ (word_of_expression_fine text) (or_fine (word_of_jump text) _ (word_of_jump_fine text) (or_fine (word_of_import text) (word_of_block text) (word_of_import_fine text) (word_of_block_fine text))))

sign_fine : (text : List ℕ) → IsFine (sign text)
unfolding sign
sign_fine text =
    or_fine (sign_of_assignment text) _ (sign_of_assignment_fine text) (or_fine (sign_of_comparison text) _ (sign_of_comparison_fine text) (or_fine (sign_of_number text) _ (sign_of_number_fine text) (or_fine (bracket text) (lexemes.mark text) (bracket_fine text) (mark_fine text))))

-- ---- tokens

reads_fine : {text : List ℕ} {t : Tok} {n : ℕ} {after : List ℕ} → Reads text t n after → Writable (lexeme_of t)
unfolding ident_text
reads_fine (words.name {c = c} {run = run} k r h) =
    let text : List ℕ = ident_text (c ∷ run) in
    choice (λ t. Writable (lexeme_of t)) (tok.Keyword text) (tok.Name text) (is_keyword text) (λ e. named_fine text (keyword text) (keyword_fine text)) (λ free. record { ident = h; free = free; source = chars (utf8_of (c ∷ run)); normal = refl })
reads_fine (words.number {n = n} k r d h w) = (n, refl, w)
reads_fine (words.operator {c = c} op k e) = named_fine (utf8_of (c ∷ op)) (sign (utf8_of (c ∷ op))) (sign_fine (utf8_of (c ∷ op)))
reads_fine (words.quoted k b) = tt

all_behind : (ts us : List Token) → AllWritable ts → AllWritable us → AllWritable (ts ++ us)
all_behind [] us h k = k
all_behind (t ∷ ts) us h k = (h.0, all_behind ts us h.1 k)

piece_fine : {d l e m : ℕ} {text after : List ℕ} {ts : List Token} → Piece d l text ts e m after → AllWritable ts
piece_fine (tokens.blank s) = tt
piece_fine (tokens.joined s) = tt
piece_fine (tokens.inside s) = tt
piece_fine (tokens.token r) = (reads_fine r, tt)

pieces_fine : {d l e m : ℕ} {text after : List ℕ} {ts : List Token} → Pieces d l text ts e m after → AllWritable ts
pieces_fine tokens.none = tt
pieces_fine (tokens.more {ts = ts} {us = us} p h) = all_behind ts us (piece_fine p) (pieces_fine h)

dedents_fine : (n line : ℕ) → AllWritable (dedents n line)
dedents_fine zero line = tt
dedents_fine (suc n) line = (tt, dedents_fine n line)

marks_fine : (change : Change) (line : ℕ) → AllWritable (marks change line)
marks_fine Indent line = (tt, tt)
marks_fine (Dedents n) line = dedents_fine n line

closing_fine : (stack : List Columns) (line : ℕ) → AllWritable (closing stack line)
closing_fine stack line = all_behind (dedents (length stack - 1) line) (mark tok.End line) (dedents_fine (length stack - 1) line) (tt, tt)

newline_fine : (depth line : ℕ) → AllWritable (newline_at_end depth line)
newline_fine zero line = (tt, tt)
newline_fine (suc depth) line = tt

abbrev IsGood : Outcome → Type 0
IsGood (Ok ts) = AllWritable ts
IsGood (Err f) = Unit {0}

good_before : (ts : List Token) (out : Outcome) → AllWritable ts → IsGood out → IsGood (before ts out)
good_before ts (Ok us) h k = all_behind ts us h k
good_before ts (Err f) h k = tt

lines_good : {stack : List Columns} {line : ℕ} {text : List ℕ} {out : Outcome} → Lines stack line text out → IsGood out
lines_good (tokens.empty s e h) = lines_good h
lines_good (tokens.logical {change = change} {next = next} {last = last} {ts = ts} {out = out} s b e p n h) =
    good_before (marks change next) (before ts (before (mark tok.Newline last) out)) (marks_fine change next) (good_before ts (before (mark tok.Newline last) out) (pieces_fine p) (good_before (mark tok.Newline last) out (tt, tt) (lines_good h)))
lines_good (tokens.last {levels = levels} {change = change} {next = next} {last = last} {depth = depth} {ts = ts} s b e p) =
    good_before (marks change next) (before ts (Ok (newline_at_end depth last ++ closing levels last))) (marks_fine change next)
    (good_before ts (Ok (newline_at_end depth last ++ closing levels last)) (pieces_fine p) (all_behind (newline_at_end depth last) (closing levels last) (newline_fine depth last) (closing_fine levels last)))
lines_good (tokens.finished {stack = stack} {last = last} s) = closing_fine stack last
lines_good (tokens.misplaced s b e) = tt
lines_good (tokens.fault s b e p f) = tt

abbrev IsGoodAnswer : Answer → Type 0
IsGoodAnswer (Ok ts) = AllWritable ts
IsGoodAnswer (Err e) = Unit {0}

answered : (out : Outcome) → IsGood out → IsGoodAnswer (answer_of out)
answered (Ok ts) h = h
answered (Err f) h = tt

answer_good : {src : List ℕ} {answer : Answer} → Tokens src answer → IsGoodAnswer answer
answer_good (source.too_long h) = tt
answer_good (source.not_utf8 h k) = tt
answer_good (source.text {out = out} h u l) = answered out (lines_good l)

pub tokens_writable : (src : List ℕ) (ts : List Token) → Tokens src (Ok ts) → AllWritable ts
tokens_writable src ts h = answer_good h
