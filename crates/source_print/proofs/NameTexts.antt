-- A printed name and a printed number are read again.
use Rattle.std.proofs.Common.{◌≡◌, ◌∙◌, refl, sym, ap, subst, ℕ, ◌+◌, ◌-◌, ◌*◌, ◌/◌, ◌%◌, ◌^◌, ◌<◌, ◌≤◌, pos, Bool, true, false, List, [], ◌∷◌, ◌++◌, arith, IsTrue}
use Rattle.std.specs.Prelude.{nat_lt}
use Rattle.std.specs.List.{list_all}
use Rattle.std.specs.Fmt.{decimal}
use Rattle.std.specs.Str.{chars, IsUtf8}
use Rattle.std.proofs.Math.Utf8.{encodes}
use Rattle.std.proofs.lemmas.Bool.{and_parts, and_from, cond-false}
use Rattle.std.proofs.lemmas.Bool.Decides.{nat_tests}
use Rattle.std.proofs.lemmas.List.Folds.{list_all-append}
use Rattle.std.proofs.lemmas.Fmt.{decimal_by_steps_wide}
use Rattle.std.proofs.lemmas.Str.{chars-append, encodes-chars, chars_from_encodes}
use Rattle.unicode_normalization.specs.Forms.{nfkc, Nfkc}
use Rattle.unicode_normalization.proofs.FormsLemmas.{normalize_idem}
use Rattle.spec_core.specs.Identifiers.{is_keyword, continues_identifier, normal_form}
use Rattle.py_lexer.specs.declared.chars.Class.TheVariants.{Digit}
use Rattle.py_lexer.specs.declared.word.Tok.TheVariants as tok
use Rattle.py_lexer.specs.Chars.{class_of, is_digit}
use Rattle.py_lexer.specs.Names.{is_ident, ident_text, word_of}
use Rattle.py_lexer.specs.Numbers as numbers
use Rattle.py_lexer.specs.Numbers.{Digits, Joint, IsNumber}
use Rattle.py_lexer.specs.TokenList.{utf8_of, depth_after}
use Rattle.py_lexer.specs.Words as words
use Rattle.py_lexer.specs.Words.{Reads}
use Rattle.py_lexer.proofs.Classes.{digit_may}
use Rattle.py_parser.specs.Words.{lexeme_of}
use Rattle.py_syntax.specs.declared.lexeme.Lexeme.TheVariants as token
use Rattle.source_print.proofs.Rows.{Follows, Again}
use Rattle.source_print.proofs.Words.{low_front, identifier_ends, no_dot, all_pass, identifier_reads}

-- ---- names

-- an identifier in its normal form, and no keyword
pub record IsName (n : List ℕ) : Type 0 where
  pub ident : is_ident n ≡ true
  pub free : is_keyword n ≡ false
  pub source : List ℕ
  pub normal : n ≡ encodes (nfkc source)

-- the name is its own normal form
own_form : (n : List ℕ) → IsName n → IsUtf8 n → ident_text (chars n) ≡ n
unfolding ident_text utf8_of
own_form n is u =
    let characters : nfkc is.source ≡ chars n = chars_from_encodes (nfkc is.source) n u (sym is.normal) in
    let same : encodes (chars n) ≡ n = encodes-chars n u in
    let stays : nfkc (chars n) ≡ chars n = ap nfkc (sym characters) ∙ normalize_idem Nfkc is.source ∙ characters in
    ap normal_form same ∙ ap encodes stays ∙ same

pub name_again : (n : List ℕ) → IsName n → IsUtf8 n → Again (token.Name n)
name_again n is u depth rest f =
    let own : ident_text (chars n) ≡ n = own_form n is u in
    let word : word_of (ident_text (chars n)) ≡ tok.Name n = ap word_of own ∙ cond-false (is_keyword n) (tok.Keyword n) (tok.Name n) is.free in
    record {
      tok = word_of (ident_text (chars n));
      same = ap lexeme_of word;
      depth = ap (λ t. depth_after t depth) word;
      reads = subst (λ cs. Reads cs (word_of (ident_text (chars n))) 0 (chars rest)) (sym (chars-append n rest u)) (identifier_reads (chars n) is.ident (ap is_ident own ∙ is.ident) rest f);
    }

-- ---- numbers

digit_class : (c : ℕ) → is_digit c ≡ true → class_of c ≡ Digit
unfolding class_of
digit_class c e = grind (arith, nat_tests)

mutual
  digits_end : {n m : ℕ} {cs : List ℕ} (d : ℕ) → IsTrue (is_digit d) → Digits n cs m → Digits n (cs ++ d ∷ []) (10 * m + (d - 48))
  digits_end d h numbers.done = numbers.digit h numbers.done
  digits_end d h (numbers.digit e k) = numbers.digit e (digits_end d h k)
  digits_end d h (numbers.joint e k) = numbers.joint e (joint_end d h k)

  joint_end : {n m : ℕ} {cs : List ℕ} (d : ℕ) → IsTrue (is_digit d) → Joint n cs m → Joint n (cs ++ d ∷ []) (10 * m + (d - 48))
  joint_end d h (numbers.behind e k) = numbers.behind e (digits_end d h k)

-- digits of the value, without leading zeros
record Decimal (n : ℕ) (ds : List ℕ) : Type 0 where
  first : ℕ
  behind : List ℕ
  is : ds ≡ first ∷ behind
  all : list_all is_digit ds ≡ true
  digits : Digits (first - 48) behind n
  zeros : first ≡ 48 → n ≡ 0

one_digit : (n : ℕ) → n < 10 → Decimal n ((48 + n) ∷ [])
one_digit n h =
    let value : (48 + n) - 48 ≡ n = omega arith in
    let digit : is_digit (48 + n) ≡ true = grind (arith, nat_tests, h) in
    record { first = 48 + n; behind = []; is = refl; all = and_from (is_digit (48 + n)) true digit refl; digits = subst (λ m. Digits ((48 + n) - 48) [] m) value numbers.done; zeros = λ e. omega (arith, e) }

more_digits : (n : ℕ) (ds : List ℕ) → 10 ≤ n → Decimal (n / 10) ds → Decimal n (ds ++ ((48 + n % 10) ∷ []))
more_digits n ds h d =
    let last : n % 10 < 10 = omega arith in
    let digit : is_digit (48 + n % 10) ≡ true = grind (arith, nat_tests, last) in
    let value : 10 * (n / 10) + ((48 + n % 10) - 48) ≡ n = omega arith in
    record {
      first = d.first;
      behind = d.behind ++ (48 + n % 10) ∷ [];
      is = ap (λ cs. cs ++ (48 + n % 10) ∷ []) d.is;
      all = list_all-append is_digit ds ((48 + n % 10) ∷ []) ∙ and_from _ _ d.all (and_from (is_digit (48 + n % 10)) true digit refl);
      digits = subst (λ m. Digits (d.first - 48) (d.behind ++ (48 + n % 10) ∷ []) m) value (digits_end (48 + n % 10) digit d.digits);
      zeros = λ e. let z = d.zeros e in absurd (omega (arith, z, h));
    }

decimal_of : (n : ℕ) → n < 2 ^ 127 → Decimal n (decimal n)
decimal_of n h = decimal_by_steps_wide Decimal one_digit more_digits n (omega (arith, h))

digit_low : (c : ℕ) → is_digit c ≡ true → nat_lt c 128 ≡ true
digit_low c h = grind (arith, nat_tests, h)

all_mono : (p q : ℕ → Bool) → ((c : ℕ) → p c ≡ true → q c ≡ true) → (cs : List ℕ) → list_all p cs ≡ true → list_all q cs ≡ true
all_mono p q f [] h = refl
all_mono p q f (c ∷ cs) h = let parts = and_parts (p c) (list_all p cs) h in and_from (q c) (list_all q cs) (f c parts.0) (all_mono p q f cs parts.1)

digits_read : (n : ℕ) → n < 2 ^ 127 → (ds : List ℕ) → Decimal n ds → (rest : List ℕ) → Follows rest → Reads (ds ++ chars rest) (tok.Number (pos n)) 0 (chars rest)
digits_read n h ds d rest f =
    let whole : list_all is_digit (d.first ∷ d.behind) ≡ true = ap (list_all is_digit) (sym d.is) ∙ d.all in
    let parts = and_parts (is_digit d.first) (list_all is_digit d.behind) whole in
    let run = all_pass continues_identifier (d.first ∷ d.behind) (all_mono is_digit continues_identifier digit_may (d.first ∷ d.behind) whole) in
    subst (λ cs. Reads (cs ++ chars rest) (tok.Number (pos n)) 0 (chars rest)) (sym d.is)
    (words.number (digit_class d.first parts.0) (record { all = run; longest = identifier_ends rest f }) (no_dot rest f) (numbers.number d.digits d.zeros) h)

pub number_again : (n : ℕ) → n < 2 ^ 127 → Again (token.Number (pos n))
number_again n h depth rest f =
    let d = decimal_of n h in
    record {
      tok = tok.Number (pos n);
      same = refl;
      depth = refl;
      reads = subst (λ cs. Reads cs (tok.Number (pos n)) 0 (chars rest)) (sym (low_front (decimal n) rest (all_mono is_digit (λ b. nat_lt b 128) digit_low (decimal n) d.all))) (digits_read n h (decimal n) d rest f);
    }
