-- Keywords, signs and brackets are read again.
use Rattle.std.proofs.Common.{◌≡◌, ◌∙◌, refl, sym, ap, subst, ℕ, suc, Bool, true, false, List, [], ◌∷◌, ◌++◌, length, Some, arith, IsTrue, IsFalse, codes}
use Rattle.std.specs.Prelude.{nat_lt, ◌==◌}
use Rattle.std.specs.List.{list_all, AllByRecursion}
use Rattle.std.specs.Str.{chars}
use Rattle.std.proofs.Math.Utf8.{encode}
use Rattle.std.proofs.lemmas.Bool.{and_parts, ltb-true, cond-true}
use Rattle.unicode_ident.proofs.Computing.{unicode_ident}
use Rattle.unicode_normalization.proofs.Computing.{unicode_normalization}
use Rattle.spec_core.specs.Identifiers.{starts_identifier, continues_identifier, is_identifier, is_keyword}
use Rattle.py_lexer.specs.declared.chars.Class.TheVariants.{Letter, Other}
use Rattle.py_lexer.specs.declared.word.Tok.TheVariants as tok
use Rattle.py_lexer.specs.Chars.{class_of, head_passes}
use Rattle.py_lexer.specs.Names.{is_ident, ident_text, word_of}
use Rattle.py_lexer.specs.Operators.{is_operator_of_three, is_operator_of_two, is_operator_of_one, op_len}
use Rattle.py_lexer.specs.TokenList.{utf8_of, symbol_of, depth_after}
use Rattle.py_lexer.specs.Words as words
use Rattle.py_lexer.specs.Words.{Reads}
use Rattle.py_lexer.proofs.Classes.{starts_letter, letter_may}
use Rattle.py_parser.specs.Words.{keyword, sign, named, lexeme_of}
use Rattle.py_syntax.specs.declared.lexeme.Lexeme.{Lexeme}
use Rattle.py_syntax.specs.declared.lexeme.Lexeme.TheVariants as token
use Rattle.source_print.specs.Lines.{is_fixed}
use Rattle.source_print.specs.Spelling.{spelled}
use Rattle.source_print.specs.Text.{rendered}
use Rattle.source_print.proofs.Rows.{ascii_char, Follows, blank, line_end, IsRead, Again}
use Rattle.source_print.proofs.Lines.{Bracket}

-- ---- ASCII

abbrev pub is_low : List ℕ → Bool
is_low bs = list_all (λ b. nat_lt b 128) bs

pub low_front : (xs ys : List ℕ) → is_low xs ≡ true → chars (xs ++ ys) ≡ xs ++ chars ys
low_front [] ys h = refl
low_front (x ∷ xs) ys h =
    let parts = and_parts (nat_lt x 128) (is_low xs) h in
    ascii_char x (xs ++ ys) (ltb-true x 128 parts.0) ∙ ap (λ cs. x ∷ cs) (low_front xs ys parts.1)

chars_nil : chars [] ≡ []
unfolding chars
chars_nil = refl

low_chars : (xs : List ℕ) → is_low xs ≡ true → chars xs ≡ xs
low_chars [] h = chars_nil
low_chars (x ∷ xs) h =
    let parts = and_parts (nat_lt x 128) (is_low xs) h in
    ascii_char x xs (ltb-true x 128 parts.0) ∙ ap (λ cs. x ∷ cs) (low_chars xs parts.1)

low_encode : (x : ℕ) → nat_lt x 128 ≡ true → encode x ≡ x ∷ []
unfolding encode
low_encode x h = cond-true _ _ _ h

low_utf8 : (xs : List ℕ) → is_low xs ≡ true → utf8_of xs ≡ xs
unfolding utf8_of
low_utf8 [] h = refl
low_utf8 (x ∷ xs) h =
    let parts = and_parts (nat_lt x 128) (is_low xs) h in
    ap (λ bs. bs ++ utf8_of xs) (low_encode x parts.0) ∙ ap (λ bs. x ∷ bs) (low_utf8 xs parts.1)

-- ---- what follows

blank_ends : continues_identifier 32 ≡ false
unfolding unicode_ident
blank_ends = refl

end_ends : continues_identifier 10 ≡ false
unfolding unicode_ident
end_ends = refl

pub identifier_ends : (rest : List ℕ) → Follows rest → IsFalse (head_passes continues_identifier (chars rest))
identifier_ends rest (blank bs) = ap (head_passes continues_identifier) (ascii_char 32 bs (omega arith)) ∙ blank_ends
identifier_ends rest (line_end bs) = ap (head_passes continues_identifier) (ascii_char 10 bs (omega arith)) ∙ end_ends

pub no_dot : (rest : List ℕ) → Follows rest → IsFalse (head_passes (λ d. d == 46) (chars rest))
no_dot rest (blank bs) = ap (head_passes (λ d. d == 46)) (ascii_char 32 bs (omega arith))
no_dot rest (line_end bs) = ap (head_passes (λ d. d == 46)) (ascii_char 10 bs (omega arith))

-- ---- identifiers

pub all_pass : (p : ℕ → Bool) (xs : List ℕ) → list_all p xs ≡ true → AllByRecursion (λ c. IsTrue (p c)) xs
all_pass p [] h = tt
all_pass p (x ∷ xs) h = let parts = and_parts (p x) (list_all p xs) h in (parts.0, all_pass p xs parts.1)

-- an identifier is read as far as it goes
pub identifier_reads : (cs : List ℕ) → is_identifier cs ≡ true → IsTrue (is_ident (ident_text cs)) → (rest : List ℕ) → Follows rest → Reads (cs ++ chars rest) (word_of (ident_text cs)) 0 (chars rest)
identifier_reads [] h i rest f = absurd cc
identifier_reads (c ∷ run) h i rest f =
    let parts = and_parts (starts_identifier c) (list_all continues_identifier run) h in
    let letter : class_of c ≡ Letter = starts_letter c parts.0 in
    words.name letter (record { all = (letter_may c letter, all_pass continues_identifier run parts.1); longest = identifier_ends rest f }) i

word_again : (text : List ℕ) (t : Lexeme) → is_low text ≡ true → is_identifier text ≡ true → ident_text text ≡ text → is_keyword text ≡ true → keyword text ≡ Some t → spelled t ≡ text → Again t
word_again text t low is normal key found spells depth rest f =
    let word : word_of (ident_text text) ≡ tok.Keyword text = ap word_of normal ∙ cond-true (is_keyword text) (tok.Keyword text) (tok.Name text) key in
    let ident : IsTrue (is_ident (ident_text text)) = ap is_ident normal ∙ ap is_identifier (low_chars text low) ∙ is in
    record {
      tok = word_of (ident_text text);
      same = ap lexeme_of word ∙ ap (named text) found;
      depth = ap (λ u. depth_after u depth) word;
      reads = subst (λ cs. Reads cs (word_of (ident_text text)) 0 (chars rest)) (sym (ap (λ s. chars (s ++ rest)) spells ∙ low_front text rest low)) (identifier_reads text is ident rest f);
    }

-- ---- signs

sign_len : (c : ℕ) (op : List ℕ) → ((after : List ℕ) → op_len (c ∷ (op ++ 32 ∷ after)) ≡ suc (length op)) → ((after : List ℕ) → op_len (c ∷ (op ++ 10 ∷ after)) ≡ suc (length op)) → (rest : List ℕ) → Follows rest → op_len (c ∷ (op ++ chars rest)) ≡ suc (length op)
sign_len c op h k rest (blank bs) = ap (λ cs. op_len (c ∷ (op ++ cs))) (ascii_char 32 bs (omega arith)) ∙ h (chars bs)
sign_len c op h k rest (line_end bs) = ap (λ cs. op_len (c ∷ (op ++ cs))) (ascii_char 10 bs (omega arith)) ∙ k (chars bs)

-- a sign that becomes so many open brackets
sign_read : (c : ℕ) (op : List ℕ) (t : Lexeme) → is_low (c ∷ op) ≡ true → class_of c ≡ Other → sign (c ∷ op) ≡ Some t → spelled t ≡ c ∷ op → (before after : ℕ) (rest : List ℕ) → depth_after (tok.Op (c ∷ op)) before ≡ after → op_len (c ∷ (op ++ chars rest)) ≡ suc (length op) → IsRead t before after rest
sign_read c op t low class found spells before after rest depth long = record {
  tok = symbol_of (c ∷ op);
  same = ap (λ text. named text (sign text)) (low_utf8 (c ∷ op) low) ∙ ap (named (c ∷ op)) found;
  depth = ap (λ text. depth_after (tok.Op text) before) (low_utf8 (c ∷ op) low) ∙ depth;
  reads = subst (λ cs. Reads cs (symbol_of (c ∷ op)) 0 (chars rest)) (sym (ap (λ s. chars (s ++ rest)) spells ∙ low_front (c ∷ op) rest low)) (words.operator op class long);
}

sign_again : (c : ℕ) (op : List ℕ) (t : Lexeme) → is_low (c ∷ op) ≡ true → class_of c ≡ Other → sign (c ∷ op) ≡ Some t → spelled t ≡ c ∷ op → ((depth : ℕ) → depth_after (tok.Op (c ∷ op)) depth ≡ depth)
    → ((after : List ℕ) → op_len (c ∷ (op ++ 32 ∷ after)) ≡ suc (length op)) → ((after : List ℕ) → op_len (c ∷ (op ++ 10 ∷ after)) ≡ suc (length op)) → Again t
sign_again c op t low class found spells level h k depth rest f = sign_read c op t low class found spells depth depth rest (level depth) (sign_len c op h k rest f)

-- ---- each of them

pub fixed_again : (t : Lexeme) → is_fixed t ≡ true → Again t
unfolding is_fixed chars class_of ident_text utf8_of encode is_keyword keyword sign op_len is_operator_of_three is_operator_of_two is_operator_of_one unicode_ident unicode_normalization
fixed_again token.And f = word_again (codes "and") token.And refl refl refl refl refl refl
fixed_again token.As f = word_again (codes "as") token.As refl refl refl refl refl refl
fixed_again token.Break f = word_again (codes "break") token.Break refl refl refl refl refl refl
fixed_again token.Continue f = word_again (codes "continue") token.Continue refl refl refl refl refl refl
fixed_again token.Def f = word_again (codes "def") token.Def refl refl refl refl refl refl
fixed_again token.Del f = word_again (codes "del") token.Del refl refl refl refl refl refl
fixed_again token.Elif f = word_again (codes "elif") token.Elif refl refl refl refl refl refl
fixed_again token.Else f = word_again (codes "else") token.Else refl refl refl refl refl refl
fixed_again token.Except f = word_again (codes "except") token.Except refl refl refl refl refl refl
fixed_again token.False f = word_again (codes "False") token.False refl refl refl refl refl refl
fixed_again token.Finally f = word_again (codes "finally") token.Finally refl refl refl refl refl refl
fixed_again token.From f = word_again (codes "from") token.From refl refl refl refl refl refl
fixed_again token.Global f = word_again (codes "global") token.Global refl refl refl refl refl refl
fixed_again token.If f = word_again (codes "if") token.If refl refl refl refl refl refl
fixed_again token.Import f = word_again (codes "import") token.Import refl refl refl refl refl refl
fixed_again token.In f = word_again (codes "in") token.In refl refl refl refl refl refl
fixed_again token.Is f = word_again (codes "is") token.Is refl refl refl refl refl refl
fixed_again token.None f = word_again (codes "None") token.None refl refl refl refl refl refl
fixed_again token.Not f = word_again (codes "not") token.Not refl refl refl refl refl refl
fixed_again token.Or f = word_again (codes "or") token.Or refl refl refl refl refl refl
fixed_again token.Pass f = word_again (codes "pass") token.Pass refl refl refl refl refl refl
fixed_again token.Raise f = word_again (codes "raise") token.Raise refl refl refl refl refl refl
fixed_again token.Return f = word_again (codes "return") token.Return refl refl refl refl refl refl
fixed_again token.True f = word_again (codes "True") token.True refl refl refl refl refl refl
fixed_again token.Try f = word_again (codes "try") token.Try refl refl refl refl refl refl
fixed_again token.While f = word_again (codes "while") token.While refl refl refl refl refl refl
fixed_again token.PlusEq f = sign_again 43 (61 ∷ []) token.PlusEq refl refl refl refl (λ d. refl) (λ a. refl) (λ a. refl)
fixed_again token.MinusEq f = sign_again 45 (61 ∷ []) token.MinusEq refl refl refl refl (λ d. refl) (λ a. refl) (λ a. refl)
fixed_again token.StarEq f = sign_again 42 (61 ∷ []) token.StarEq refl refl refl refl (λ d. refl) (λ a. refl) (λ a. refl)
fixed_again token.SlashSlashEq f = sign_again 47 (47 ∷ 61 ∷ []) token.SlashSlashEq refl refl refl refl (λ d. refl) (λ a. refl) (λ a. refl)
fixed_again token.PercentEq f = sign_again 37 (61 ∷ []) token.PercentEq refl refl refl refl (λ d. refl) (λ a. refl) (λ a. refl)
fixed_again token.EqEq f = sign_again 61 (61 ∷ []) token.EqEq refl refl refl refl (λ d. refl) (λ a. refl) (λ a. refl)
fixed_again token.NotEq f = sign_again 33 (61 ∷ []) token.NotEq refl refl refl refl (λ d. refl) (λ a. refl) (λ a. refl)
fixed_again token.Less f = sign_again 60 [] token.Less refl refl refl refl (λ d. refl) (λ a. refl) (λ a. refl)
fixed_again token.LessEq f = sign_again 60 (61 ∷ []) token.LessEq refl refl refl refl (λ d. refl) (λ a. refl) (λ a. refl)
fixed_again token.Greater f = sign_again 62 [] token.Greater refl refl refl refl (λ d. refl) (λ a. refl) (λ a. refl)
fixed_again token.GreaterEq f = sign_again 62 (61 ∷ []) token.GreaterEq refl refl refl refl (λ d. refl) (λ a. refl) (λ a. refl)
fixed_again token.Plus f = sign_again 43 [] token.Plus refl refl refl refl (λ d. refl) (λ a. refl) (λ a. refl)
fixed_again token.Minus f = sign_again 45 [] token.Minus refl refl refl refl (λ d. refl) (λ a. refl) (λ a. refl)
fixed_again token.Star f = sign_again 42 [] token.Star refl refl refl refl (λ d. refl) (λ a. refl) (λ a. refl)
fixed_again token.SlashSlash f = sign_again 47 (47 ∷ []) token.SlashSlash refl refl refl refl (λ d. refl) (λ a. refl) (λ a. refl)
fixed_again token.Percent f = sign_again 37 [] token.Percent refl refl refl refl (λ d. refl) (λ a. refl) (λ a. refl)
fixed_again token.Comma f = sign_again 44 [] token.Comma refl refl refl refl (λ d. refl) (λ a. refl) (λ a. refl)
fixed_again token.Colon f = sign_again 58 [] token.Colon refl refl refl refl (λ d. refl) (λ a. refl) (λ a. refl)
fixed_again token.Dot f = sign_again 46 [] token.Dot refl refl refl refl (λ d. refl) (λ a. refl) (λ a. refl)
fixed_again token.Assign f = sign_again 61 [] token.Assign refl refl refl refl (λ d. refl) (λ a. refl) (λ a. refl)
fixed_again t f = absurd cc

pub parens : Bracket token.OpenParen token.CloseParen
unfolding rendered class_of sign op_len is_operator_of_three is_operator_of_two is_operator_of_one unicode_ident
parens = record {
  opens = λ depth rest. sign_read 40 [] token.OpenParen refl refl refl refl depth (suc depth) rest (omega arith) refl;
  closes = λ depth rest f. sign_read 41 [] token.CloseParen refl refl refl refl (suc depth) depth rest (omega arith) refl;
  opening_is = λ depth first ts. refl;
  closing_is = λ depth first ts. refl;
}

pub brackets : Bracket token.OpenBracket token.CloseBracket
unfolding rendered class_of sign op_len is_operator_of_three is_operator_of_two is_operator_of_one unicode_ident
brackets = record {
  opens = λ depth rest. sign_read 91 [] token.OpenBracket refl refl refl refl depth (suc depth) rest (omega arith) refl;
  closes = λ depth rest f. sign_read 93 [] token.CloseBracket refl refl refl refl (suc depth) depth rest (omega arith) refl;
  opening_is = λ depth first ts. refl;
  closing_is = λ depth first ts. refl;
}
