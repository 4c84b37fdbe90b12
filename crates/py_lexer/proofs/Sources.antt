-- A source has one answer, which is read.
use Rattle.std.proofs.Common.{◌≡◌, ℕ, zero, suc, ◌+◌, ◌*◌, ◌-◌, ◌<◌, ◌≤◌, ◌==◌, nat_lt, Bool, true, false, Result, Ok, Err, List, [], ◌∷◌, length, take, take_all, refl, sym, ap, subst, ◌∙◌, arith}
use Rattle.std.specs.Prelude.{if◌then◌else◌}
use Rattle.std.specs.Str.{IsUtf8, IsValidUpTo, is_utf8, chars, chars_after, continuation_len, lead_bits}
use Rattle.std.specs.Str.Lossy.{utf8_valid_len, valid_len_up_to}
use Rattle.std.proofs.lemmas.Str.{is_utf8-from_IsUtf8, IsUtf8-from_is_utf8, utf8_valid_len-IsValidUpTo, utf8_valid_len_le}
use Rattle.std.proofs.lemmas.Bool.Decides.{nat_tests}
use Rattle.std.proofs.Math.Seq.{take-length}
use Rattle.base_types.specs.declared.limits.TheConstants.{LONGEST_SOURCE}
use Rattle.py_lexer.specs.declared.error.LexError.{LexError}
use Rattle.py_lexer.specs.declared.error.LexError.TheVariants as error
use Rattle.py_lexer.specs.declared.word.Token.{Token}
use Rattle.py_lexer.specs.Source as source_spec
use Rattle.py_lexer.specs.Source.{Answer, Tokens, line_ends, without_mark, answer_of}
use Rattle.py_lexer.specs.SourceReading.{source}
use Rattle.py_lexer.specs.Scanning.{Told}
use Rattle.py_lexer.proofs.Cases.{choice}
use Rattle.py_lexer.proofs.Logical.{lines_starts, starts_lines}
use Rattle.py_lexer.proofs.Lexes.{starts_scan, scan_starts}

chars_after_fit : (n c : ℕ) (bs : List ℕ) → length (chars_after n c bs) ≤ suc (length bs)
chars_after_fit zero c [] = omega arith
chars_after_fit zero c (b ∷ bs) = let h = chars_after_fit (continuation_len b) (lead_bits b) bs in omega (arith, h)
chars_after_fit (suc n) c [] = omega arith
chars_after_fit (suc n) c (b ∷ bs) = let h = chars_after_fit n (c * 64 + (b - 128)) bs in omega (arith, h)

pub chars_fit : (bs : List ℕ) → length (chars bs) ≤ length bs
unfolding chars
chars_fit [] = omega arith
chars_fit (b ∷ bs) = chars_after_fit (continuation_len b) (lead_bits b) bs

pub utf8_true : (bs : List ℕ) → IsUtf8 bs → is_utf8 bs ≡ true
utf8_true bs u = is_utf8-from_IsUtf8 bs u

false_by : (b : Bool) → (b ≡ true → ⊥) → b ≡ false
false_by true f = absurd (f refl)
false_by false f = refl

pub utf8_false : (bs : List ℕ) → ¬ (IsUtf8 bs) → is_utf8 bs ≡ false
utf8_false bs f = false_by (is_utf8 bs) (λ e. f (IsUtf8-from_is_utf8 bs e))

pub valid_within : (bs : List ℕ) → utf8_valid_len bs ≤ length bs
valid_within bs = utf8_valid_len_le bs

not_whole : (bs : List ℕ) (n : ℕ) → IsValidUpTo bs n → is_utf8 bs ≡ false
not_whole bs n v = utf8_false bs (λ u. v.longest (length bs) v.short (subst IsUtf8 (sym (take-length bs)) u))

-- a source gives only what is read
pub only : {src : List ℕ} {answer : Answer} → Tokens src answer → source src ≡ answer
unfolding source
only {src} (source_spec.too_long h) = let t : nat_lt LONGEST_SOURCE (length src) ≡ true = grind (arith, nat_tests) in rw t refl
only {src} (source_spec.not_utf8 {n = n} h v) =
    let t : nat_lt LONGEST_SOURCE (length src) ≡ false = grind (arith, nat_tests) in
    rw (t, not_whole src n v, utf8_valid_len-IsValidUpTo src n v) refl
only {src} (source_spec.text {out = out} h u s) =
    let t : nat_lt LONGEST_SOURCE (length src) ≡ false = grind (arith, nat_tests) in
    rw (t, utf8_true src u, starts_scan (without_mark (chars src)) out (lines_starts s)) refl

-- the front that is UTF-8
longest_by : (bs : List ℕ) (n m : ℕ) (b : Bool) → is_utf8 (take (suc n) bs) ≡ b → (if b then suc n else valid_len_up_to bs n) < m → m ≤ suc n → (valid_len_up_to bs n < m → m ≤ n → is_utf8 (take m bs) ≡ false) → (k : Bool) → (m == suc n) ≡ k → is_utf8 (take m bs) ≡ false
longest_by bs n m true e h l f k t = absurd (omega arith)
longest_by bs n m false e h l f true t = let same : m ≡ suc n = grind (arith, nat_tests) in rw same e
longest_by bs n m false e h l f false t = let less : m ≤ n = grind (arith, nat_tests) in f h less

longest : (bs : List ℕ) (n m : ℕ) → valid_len_up_to bs n < m → m ≤ n → is_utf8 (take m bs) ≡ false
longest bs zero m h l = absurd (omega arith)
longest bs (suc n) m h l = longest_by bs n m (is_utf8 (take (suc n) bs)) refl h l (longest bs n m) (m == suc n) refl

empty_utf8 : is_utf8 [] ≡ true
unfolding is_utf8 chars
empty_utf8 = refl

front_by : (bs : List ℕ) (n : ℕ) (b : Bool) → is_utf8 (take (suc n) bs) ≡ b → is_utf8 (take (valid_len_up_to bs n) bs) ≡ true → is_utf8 (take (if b then suc n else valid_len_up_to bs n) bs) ≡ true
front_by bs n true e h = e
front_by bs n false e h = h

front : (bs : List ℕ) (n : ℕ) → is_utf8 (take (valid_len_up_to bs n) bs) ≡ true
front bs zero = empty_utf8
front bs (suc n) = front_by bs n (is_utf8 (take (suc n) bs)) refl (front bs n)

-- more bytes than there are
beyond : (bs : List ℕ) (m : ℕ) → length bs ≤ m → take m bs ≡ bs
beyond bs m h = take_all m bs h

no_front_by : (bs : List ℕ) → is_utf8 bs ≡ false → (m : ℕ) → valid_len_up_to bs (length bs) < m → (b : Bool) → nat_lt (length bs) m ≡ b → is_utf8 (take m bs) ≡ false
no_front_by bs e m h true t = let far : length bs ≤ m = grind (arith, nat_tests) in rw (beyond bs m far) e
no_front_by bs e m h false t = let near : m ≤ length bs = grind (arith, nat_tests) in longest bs (length bs) m h near

up_to : (bs : List ℕ) (n : ℕ) → valid_len_up_to bs n ≤ n
up_to bs zero = omega arith
up_to bs (suc n) = let h = up_to bs n in choice (λ (k : ℕ). k ≤ suc n) (suc n) (valid_len_up_to bs n) (is_utf8 (take (suc n) bs)) (λ _. omega arith) (λ _. omega (arith, h))

shorter_by : (bs : List ℕ) (n : ℕ) → n ≤ length bs → is_utf8 bs ≡ false → is_utf8 (take n bs) ≡ true → (b : Bool) → nat_lt n (length bs) ≡ b → n < length bs
shorter_by bs n l e f true t = grind (arith, nat_tests)
shorter_by bs n l e f false t =
    let all : length bs ≤ n = grind (arith, nat_tests) in
    let whole : is_utf8 bs ≡ true = ap is_utf8 (sym (beyond bs n all)) ∙ f in
    absurd cc

shorter : (bs : List ℕ) → is_utf8 bs ≡ false → is_utf8 (take (valid_len_up_to bs (length bs)) bs) ≡ true → valid_len_up_to bs (length bs) < length bs
shorter bs e f = shorter_by bs (valid_len_up_to bs (length bs)) (up_to bs (length bs)) e f (nat_lt (valid_len_up_to bs (length bs)) (length bs)) refl

no_front : (bs : List ℕ) → is_utf8 bs ≡ false → (m : ℕ) → valid_len_up_to bs (length bs) < m → is_utf8 (take m bs) ≡ false
no_front bs e m h = no_front_by bs e m h (nat_lt (length bs) m) refl

valid_up_to : (bs : List ℕ) → is_utf8 bs ≡ false → IsValidUpTo bs (utf8_valid_len bs)
unfolding utf8_valid_len
valid_up_to bs e = record {
  short = shorter bs e (front bs (length bs));
  front = IsUtf8-from_is_utf8 _ (front bs (length bs));
  longest = λ m h u. let t = is_utf8-from_IsUtf8 (take m bs) u in let f = no_front bs e m h in absurd cc;
}

-- what is read is what the source gives
pub gives : (src : List ℕ) → Tokens src (source src)
unfolding source
gives src =
    choice (Tokens src) _ _ (nat_lt LONGEST_SOURCE (length src))
    (λ t. source_spec.too_long (grind (arith, nat_tests)))
    (λ t. let fits : length src ≤ LONGEST_SOURCE = grind (arith, nat_tests) in
    choice (Tokens src) _ _ (is_utf8 src)
    (λ u. source_spec.text fits (IsUtf8-from_is_utf8 src u) (starts_lines (scan_starts (without_mark (chars src)))))
    (λ f. source_spec.not_utf8 fits (valid_up_to src f)))

-- each source has one answer
pub one_answer : (src : List ℕ) (a b : Answer) → Tokens src a → Tokens src b → a ≡ b
one_answer src a b s t = sym (only s) ∙ only t

pub told_more : (P Q : Answer → Type 0) (r : Result (List Token) LexError) → ((a : Answer) → P a → Q a) → Told P r → Told Q r
told_more P Q (Ok v) f h = f (Ok v) h
told_more P Q (Err error.NoMemory) f h = tt
told_more P Q (Err e) f h = f (Err e) h

pub told_given : (src : List ℕ) (r : Result (List Token) LexError) → Told (λ told. told ≡ source src) r → Told (Tokens src) r
told_given src r h = told_more (λ told. told ≡ source src) (Tokens src) r (λ a e. subst (Tokens src) (sym e) (gives src)) h

pub told_only : (src : List ℕ) (r : Result (List Token) LexError) → Told (λ told. told ≡ source src) r → (answer : Answer) → Tokens src answer → Told (λ told. told ≡ answer) r
told_only src r h answer t = told_more (λ told. told ≡ source src) (λ told. told ≡ answer) r (λ a e. e ∙ only t) h
