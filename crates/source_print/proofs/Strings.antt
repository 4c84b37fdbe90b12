-- A printed string is read again.
use Rattle.std.proofs.Common.{◌≡◌, ◌≢◌, ◌∙◌, refl, sym, ap, subst, ℕ, suc, ◌+◌, ◌-◌, ◌*◌, ◌/◌, ◌%◌, ◌<◌, ◌≤◌, Bool, true, false, ◌&&◌, ◌||◌, List, [], ◌∷◌, ◌++◌, length, get_or, flat_map, append_assoc, append-nil, Some, None, inl, inr, arith, codes}
use Rattle.std.specs.Prelude.{nat_lt, ◌==◌}
use Rattle.std.specs.Str.{chars, IsUtf8}
use Rattle.std.proofs.Math.Utf8.{encode, encodes, scalars}
use Rattle.std.proofs.lemmas.Bool.{cases_Bool, and_parts, and_from, ltb-true, ltb-false, lt-ltb, cond-true, cond-false, eqb-true, ne_eqb}
use Rattle.std.proofs.lemmas.Bool.Decides.{nat_tests}
use Rattle.std.proofs.lemmas.Grind.{flat_map-append}
use Rattle.std.proofs.lemmas.Str.{chars-encodes, chars-append, encode_ascii, inside_one}
use Rattle.base_spelling.specs.Spelling as spelling
use Rattle.base_spelling.specs.Spelling.{is_escaped, escape, quoted, hex_byte}
use Rattle.py_lexer.specs.declared.chars.Class.TheVariants.{Quote}
use Rattle.py_lexer.specs.declared.quoted.Quotes.{Quotes}
use Rattle.py_lexer.specs.Chars.{class_of, is_end}
use Rattle.py_lexer.specs.Quoted as grammar
use Rattle.py_lexer.specs.Quoted.{Escape, Item, Body}
use Rattle.py_lexer.specs.Strings.{after_two, closing_quotes, opening_quotes, escaped, hex_digit, hex_pair}
use Rattle.py_lexer.specs.TokenList.{utf8_of, quoted_of}
use Rattle.py_lexer.specs.Words as words
use Rattle.py_lexer.specs.Words.{Reads}
use Rattle.py_lexer.proofs.Cases.{choice}
use Rattle.py_syntax.specs.declared.lexeme.Lexeme.TheVariants as token
use Rattle.source_print.proofs.Rows.{ascii_char, Follows, blank, line_end, Again}
use Rattle.source_print.proofs.Words.{is_low, low_front}

-- the quotes of printed strings
abbrev quotes : Quotes
quotes = record { mark = 34; long = false }

-- ---- escapes

-- what is printed is an escape of the character
record Escaped (c : ℕ) (e : List ℕ) : Type 0 where
  tail : List ℕ
  is : e ≡ 92 ∷ tail
  low : is_low e ≡ true
  reads : (after : List ℕ) → Escape (tail ++ after) (c ∷ []) 0 after

simple : (c d : ℕ) → nat_lt d 128 ≡ true → escaped d ≡ Some c → Escaped c (92 ∷ d ∷ [])
simple c d low e = record { tail = d ∷ []; is = refl; low = and_from (nat_lt d 128) true low refl; reads = λ after. grammar.simple e }

quote_or_slash : (c : ℕ) → (c == 92 || c == 34) ≡ true → Escaped c (92 ∷ c ∷ [])
unfolding escaped
quote_or_slash c h = elim (cases_Bool (c == 92)) [
  | inl e ↦ subst (λ d. Escaped d (92 ∷ d ∷ [])) (sym (eqb-true c 92 e)) (simple 92 92 refl refl)
  | inr n ↦ subst (λ d. Escaped d (92 ∷ d ∷ [])) (sym (eqb-true c 34 (sym (ap (λ b. b || c == 34) n) ∙ h))) (simple 34 34 refl refl)
]

digit_again : (d : ℕ) → d < 16 → hex_digit (spelling.hex_digit d) ≡ Some d
unfolding hex_digit
digit_again d h = elim (cases_Bool (nat_lt d 10)) [
  | inl low ↦ let e : spelling.hex_digit d ≡ 48 + d = cond-true _ _ _ low in let l = ltb-true d 10 low in let back : (48 + d) - 48 ≡ d = omega arith in rw e (grind (arith, nat_tests, l, back))
  | inr high ↦ let e : spelling.hex_digit d ≡ 87 + d = cond-false _ _ _ high in let l = ltb-false d 10 high in let back : (87 + d) - 87 ≡ d = omega arith in rw e (grind (arith, nat_tests, l, back, h))
]

digit_low : (d : ℕ) → d < 16 → nat_lt (spelling.hex_digit d) 128 ≡ true
digit_low d h = elim (cases_Bool (nat_lt d 10)) [
  | inl low ↦ let e : spelling.hex_digit d ≡ 48 + d = cond-true _ _ _ low in rw e (lt-ltb (48 + d) 128 (omega (arith, h)))
  | inr high ↦ let e : spelling.hex_digit d ≡ 87 + d = cond-false _ _ _ high in rw e (lt-ltb (87 + d) 128 (omega (arith, h)))
]

pair_of : (a b x y : ℕ) (after : List ℕ) → hex_digit a ≡ Some x → hex_digit b ≡ Some y → hex_pair (a ∷ b ∷ after) ≡ Some (16 * x + y)
unfolding hex_pair
pair_of a b x y after h k = rw (hex_pair, h, k) refl

hexadecimal : (c : ℕ) → c < 128 → Escaped c (codes "\\x" ++ hex_byte c)
hexadecimal c h =
    let high : c / 16 < 16 = omega arith in
    let low : c % 16 < 16 = omega arith in
    let whole : 16 * (c / 16) + c % 16 ≡ c = omega arith in
    record {
      tail = 120 ∷ hex_byte c;
      is = refl;
      low = and_from _ _ (digit_low (c / 16) high) (and_from _ true (digit_low (c % 16) low) refl);
      reads = λ after. grammar.hex_two refl (pair_of (spelling.hex_digit (c / 16)) (spelling.hex_digit (c % 16)) (c / 16) (c % 16) after (digit_again (c / 16) high) (digit_again (c % 16) low) ∙ ap Some whole);
    }

escape_reads : (c : ℕ) → c < 128 → Escaped c (escape c)
unfolding escaped
escape_reads c h =
    choice (Escaped c) (92 ∷ c ∷ []) _ (c == 92 || c == 34) (quote_or_slash c) (λ n1.
    choice (Escaped c) (codes "\\n") _ (c == 10) (λ e. subst (λ d. Escaped d (codes "\\n")) (sym (eqb-true c 10 e)) (simple 10 110 refl refl)) (λ n2.
    choice (Escaped c) (codes "\\r") _ (c == 13) (λ e. subst (λ d. Escaped d (codes "\\r")) (sym (eqb-true c 13 e)) (simple 13 114 refl refl)) (λ n3.
    choice (Escaped c) (codes "\\t") (codes "\\x" ++ hex_byte c) (c == 9) (λ e. subst (λ d. Escaped d (codes "\\t")) (sym (eqb-true c 9 e)) (simple 9 116 refl refl)) (λ n4. hexadecimal c h))))

-- ---- characters

-- a character that is printed at the front is read
record Front (c : ℕ) (more : List ℕ) : Type 0 where
  first : ℕ
  behind : List ℕ
  is : chars (flat_map spelling.escaped (encode c) ++ more) ≡ first ∷ behind
  inside : first ≢ 34
  item : Item quotes (first ∷ behind) (c ∷ []) 0 (chars more)

-- what is not escaped
not_escaped : (c : ℕ) → is_escaped c ≡ false → (c ≢ 34) × (c ≢ 92) × (is_end c ≡ false)
not_escaped c h = (λ e. grind (arith, nat_tests, h, e), λ e. grind (arith, nat_tests, h, e), grind (arith, nat_tests, h))

low_front_of : (c : ℕ) → c < 128 → (more : List ℕ) → (b : Bool) → is_escaped c ≡ b → Front c more
low_front_of c h more false n =
    let parts = not_escaped c n in
    let text : flat_map spelling.escaped (encode c) ≡ c ∷ [] = ap (flat_map spelling.escaped) (encode_ascii c h) ∙ ap (λ t. t ++ []) (cond-false (is_escaped c) (escape c) (c ∷ []) n) in
    record { first = c; behind = chars more; is = ap (λ t. chars (t ++ more)) text ∙ ascii_char c more h; inside = parts.0; item = grammar.plain parts.1 parts.2 }
low_front_of c h more true y =
    let e = escape_reads c h in
    let text : flat_map spelling.escaped (encode c) ≡ escape c = ap (flat_map spelling.escaped) (encode_ascii c h) ∙ append-nil (spelling.escaped c) ∙ cond-true (is_escaped c) (escape c) (c ∷ []) y in
    record {
      first = 92;
      behind = e.tail ++ chars more;
      is = ap (λ t. chars (t ++ more)) text ∙ low_front (escape c) more e.low ∙ ap (λ t. t ++ chars more) e.is;
      inside = λ q. omega (arith, q);
      item = grammar.escape refl (e.reads (chars more));
    }

high_bytes : (bs : List ℕ) → ((k : ℕ) → k < length bs → 128 ≤ get_or bs k 0) → flat_map spelling.escaped bs ≡ bs
high_bytes [] h = refl
high_bytes (b ∷ bs) h =
    let high : 128 ≤ b = h 0 (omega arith) in
    let plain : is_escaped b ≡ false = grind (arith, nat_tests, high) in
    ap (λ t. t ++ flat_map spelling.escaped bs) (cond-false (is_escaped b) (escape b) (b ∷ []) plain) ∙ ap (λ t. b ∷ t) (high_bytes bs (λ k l. h (suc k) (omega (arith, l))))

high_encode : (c : ℕ) → 128 ≤ c → (k : ℕ) → k < length (encode c) → 128 ≤ get_or (encode c) k 0
high_encode c h k l = elim (cases_Bool (nat_lt (get_or (encode c) k 0) 128)) [
  | inl low ↦ let is : c ≡ get_or (encode c) k 0 = inside_one c [] (encode c) k (sym (append-nil (encode c))) l (ltb-true _ 128 low) in let small = ltb-true (get_or (encode c) k 0) 128 low in absurd (omega (arith, is, small, h))
  | inr high ↦ ltb-false _ 128 high
]

high_front : (c : ℕ) → scalars (c ∷ []) ≡ true → 128 ≤ c → (more : List ℕ) → Front c more
high_front c s h more =
    let text : flat_map spelling.escaped (encode c) ≡ encode c = high_bytes (encode c) (high_encode c h) in
    let utf8 : IsUtf8 (encode c) = (c ∷ [], (s, append-nil (encode c))) in
    let one : chars (encode c) ≡ c ∷ [] = ap chars (sym (append-nil (encode c))) ∙ chars-encodes (c ∷ []) s in
    record {
      first = c;
      behind = chars more;
      is = ap (λ t. chars (t ++ more)) text ∙ chars-append (encode c) more utf8 ∙ ap (λ t. t ++ chars more) one;
      inside = λ e. omega (arith, e, h);
      item = grammar.plain (λ e. omega (arith, e, h)) (grind (arith, nat_tests, h));
    }

front : (c : ℕ) → scalars (c ∷ []) ≡ true → (more : List ℕ) → Front c more
front c s more = elim (cases_Bool (nat_lt c 128)) [
  | inl low ↦ low_front_of c (ltb-true c 128 low) more (is_escaped c) refl
  | inr high ↦ high_front c s (ltb-false c 128 high) more
]

-- ---- the rest of a string

closes : (after : List ℕ) → closing_quotes quotes (34 ∷ after) ≡ Some after
unfolding closing_quotes
closes after = refl

goes_on : (c : ℕ) (cs : List ℕ) → c ≢ 34 → closing_quotes quotes (c ∷ cs) ≡ None
unfolding closing_quotes
goes_on c cs h = cond-false _ _ _ (ne_eqb c 34 h)

abbrev printed_rest : List ℕ → List ℕ → List ℕ
printed_rest bs rest = flat_map spelling.escaped bs ++ 34 ∷ rest

rest_is : (c : ℕ) (cs rest : List ℕ) → printed_rest (encode c ++ encodes cs) rest ≡ flat_map spelling.escaped (encode c) ++ printed_rest (encodes cs) rest
rest_is c cs rest = ap (λ t. t ++ 34 ∷ rest) (flat_map-append spelling.escaped (encode c) (encodes cs)) ∙ append_assoc (flat_map spelling.escaped (encode c)) (flat_map spelling.escaped (encodes cs)) (34 ∷ rest)

body_reads : (cs : List ℕ) → scalars cs ≡ true → (rest : List ℕ) → Body quotes (chars (printed_rest (encodes cs) rest)) cs 0 (chars rest)
body_reads [] s rest = subst (λ t. Body quotes t [] 0 (chars rest)) (sym (ascii_char 34 rest (omega arith))) (grammar.closed (closes (chars rest)))
body_reads (c ∷ cs) s rest =
    let parts = and_parts _ (scalars cs) s in
    let f = front c (and_from _ true parts.0 refl) (printed_rest (encodes cs) rest) in
    subst (λ t. Body quotes t (c ∷ cs) 0 (chars rest)) (sym (ap chars (rest_is c cs rest) ∙ f.is))
    (grammar.item (goes_on f.first f.behind f.inside) f.item (body_reads cs parts.1 rest))

-- ---- the quotes that open it

not_two : (c : ℕ) (cs : List ℕ) → c ≢ 34 → after_two 34 (c ∷ cs) ≡ None
unfolding after_two
not_two c [] h = refl
not_two c (d ∷ ds) h = cond-false _ _ _ (ap (λ b. b && d == 34) (ne_eqb c 34 h))

one_only : (rest : List ℕ) → Follows rest → after_two 34 (34 ∷ chars rest) ≡ None
unfolding after_two
one_only rest (blank bs) = ap (λ cs. after_two 34 (34 ∷ cs)) (ascii_char 32 bs (omega arith))
one_only rest (line_end bs) = ap (λ cs. after_two 34 (34 ∷ cs)) (ascii_char 10 bs (omega arith))

single : (cs : List ℕ) → scalars cs ≡ true → (rest : List ℕ) → Follows rest → after_two 34 (chars (printed_rest (encodes cs) rest)) ≡ None
single [] s rest f = ap (after_two 34) (ascii_char 34 rest (omega arith)) ∙ one_only rest f
single (c ∷ cs) s rest f =
    let parts = and_parts _ (scalars cs) s in
    let begun = front c (and_from _ true parts.0 refl) (printed_rest (encodes cs) rest) in
    ap (after_two 34) (ap chars (rest_is c cs rest) ∙ begun.is) ∙ not_two begun.first begun.behind begun.inside

opened : (cs : List ℕ) → after_two 34 cs ≡ None → opening_quotes 34 cs ≡ (quotes, cs)
unfolding opening_quotes
opened cs h = rw (opening_quotes, h) refl

quote_class : class_of 34 ≡ Quote
unfolding class_of
quote_class = refl

reads_as : (s cs rest : List ℕ) → scalars cs ≡ true → encodes cs ≡ s → Follows rest → Reads (chars (quoted s ++ rest)) (quoted_of cs) 0 (chars rest)
reads_as s cs rest scalar is f =
    let inside : List ℕ = chars (printed_rest (encodes cs) rest) in
    let open_is : opening_quotes 34 inside ≡ (quotes, inside) = opened inside (single cs scalar rest f) in
    let whole : Reads (34 ∷ inside) (quoted_of cs) 0 (chars rest) = words.quoted quote_class (subst (λ o. Body o.0 o.1 cs 0 (chars rest)) (sym open_is) (body_reads cs scalar rest)) in
    let text : chars (quoted s ++ rest) ≡ 34 ∷ inside =
    ap (λ bs. chars (quoted bs ++ rest)) (sym is) ∙ ap (λ t. chars (34 ∷ t)) (append_assoc (flat_map spelling.escaped (encodes cs)) (34 ∷ []) rest) ∙ ascii_char 34 (printed_rest (encodes cs) rest) (omega arith)
    in
    subst (λ t. Reads t (quoted_of cs) 0 (chars rest)) (sym text) whole

pub string_again : (s : List ℕ) → IsUtf8 s → Again (token.Str s)
unfolding utf8_of
string_again s u depth rest f = record { tok = quoted_of u.0; same = ap (λ t. token.Str t) u.1.1; depth = refl; reads = reads_as s u.0 rest u.1.0 u.1.1 f }
