-- Tokens and faults in their place are read so, and only so.
use Rattle.std.proofs.Common.{pos, ◌≡◌, ℕ, suc, ◌^◌, ◌<◌, ◌≤◌, ◌==◌, nat_lt, Bool, true, false, Option, Some, None, Ok, Err, List, [], ◌∷◌, ◌++◌, length, take, drop, refl, sym, ap, subst, ◌∙◌, arith, length-append, length-take, zero-add}
use Rattle.std.specs.Prelude.{if◌then◌else◌, IsTrue, IsFalse}
use Rattle.std.specs.List.{prefix_len}
use Rattle.std.proofs.lemmas.Bool.Decides.{nat_tests}
use Rattle.std.proofs.lemmas.List.{take-append-drop}
use Rattle.std.proofs.Math.Seq.{take-append_seam, drop-append_seam}
use Rattle.py_lexer.specs.declared.chars.Class.{Class}
use Rattle.py_lexer.specs.declared.chars.Class.TheVariants.{White, Hash, LineEnd, Backslash, Digit, Quote, Letter, Other}
use Rattle.py_lexer.specs.declared.error.Kind.{Kind}
use Rattle.py_lexer.specs.declared.error.Kind.TheVariants.{BadChar, BadNumber, NumberTooWide}
use Rattle.py_lexer.specs.Chars.{class_of, is_end, head_passes, IsRun}
use Rattle.spec_core.specs.Identifiers.{continues_identifier}
use Rattle.py_lexer.specs.TokenList.{quoted_of, symbol_of}
use Rattle.py_lexer.specs.declared.word.Tok.{Tok}
use Rattle.py_lexer.specs.declared.word.Tok.TheVariants.{Number}
use Rattle.py_lexer.specs.Names.{is_ident, ident_text, word_of}
use Rattle.py_lexer.specs.Operators.{op_len}
use Rattle.py_lexer.specs.Strings.{opening_quotes}
use Rattle.py_lexer.specs.Numbers.{IsNumber}
use Rattle.py_lexer.specs.Words as tokens
use Rattle.py_lexer.specs.Words.{Reads, Faulty, begins, begins_token}
use Rattle.py_lexer.specs.Reading.{Reading, read, name, number, number_value, number_of, operator, quoted, word, word_by}
use Rattle.py_lexer.proofs.Cases.{choice}
use Rattle.py_lexer.proofs.Classes.{letter_continues, digit_continues, digit_low}
use Rattle.py_lexer.proofs.Runs.{run_front, run_rest, is_run, not_true}
use Rattle.py_lexer.proofs.Numbers.{cap, number_complete, number_right, Number_right}
use Rattle.py_lexer.proofs.Quotes.{Body_right, body_complete, bad_body_complete, body_right, body_shorter, opening_shorter}
use Rattle.py_lexer.proofs.Lengths.{op_within}
use Rattle.std.proofs.lemmas.List.Folds.{length-prefix_len}

-- names
name_complete : (run after : List ℕ) → IsRun continues_identifier run after → IsTrue (is_ident (ident_text run)) → name (run ++ after) ≡ read (word_of (ident_text run)) 0 after
unfolding name
name_complete run after r h = rw (run_front continues_identifier r, run_rest continues_identifier r, h) refl

bad_name_complete : (run after : List ℕ) → IsRun continues_identifier run after → IsFalse (is_ident (ident_text run)) → name (run ++ after) ≡ Err BadChar
unfolding name
bad_name_complete run after r h = rw (run_front continues_identifier r, h) refl

-- numbers
number_with : (run after : List ℕ) (o : Option ℕ) → IsRun continues_identifier run after → IsFalse (head_passes (λ d. d == 46) after) → number_value run ≡ o → number (run ++ after) ≡ number_of o after
unfolding number
number_with run after o r d e = rw (run_front continues_identifier r, run_rest continues_identifier r, d, e) refl

dotted_complete : (run after : List ℕ) → IsRun continues_identifier run after → IsTrue (head_passes (λ d. d == 46) after) → number (run ++ after) ≡ Err BadNumber
unfolding number
dotted_complete run after r d = rw (run_rest continues_identifier r, d) refl

fits_cap : (m : ℕ) → m < 2 ^ 127 → (nat_lt (cap m) (2 ^ 127) ≡ true) × (cap m ≡ m)
fits_cap m h = (grind (arith, nat_tests), omega arith)

wide_cap : (m : ℕ) → 2 ^ 127 ≤ m → nat_lt (cap m) (2 ^ 127) ≡ false
wide_cap m h = grind (arith, nat_tests)

unread : (c : ℕ) (run : List ℕ) (o : Option ℕ) → Number_right (c ∷ run) o → ((n : ℕ) → ¬ IsNumber (c ∷ run) n) → o ≡ None
unread c run None h f = refl
unread c run (Some w) h f = absurd (f h.0 h.1)

bad_number_by : (run after : List ℕ) (b : Bool) → IsRun continues_identifier run after → head_passes (λ d. d == 46) after ≡ b → number_value run ≡ None → number (run ++ after) ≡ Err BadNumber
bad_number_by run after true r d e = dotted_complete run after r d
bad_number_by run after false r d e = number_with run after None r d e

-- operators
suc_eqb : (n : ℕ) → (suc n == 0) ≡ false
suc_eqb n = grind (arith, nat_tests)

operator_complete : (c : ℕ) (op after : List ℕ) → op_len (c ∷ (op ++ after)) ≡ suc (length op) → operator (c ∷ (op ++ after)) ≡ read (symbol_of (c ∷ op)) 0 after
unfolding operator
operator_complete c op after e = rw (e, suc_eqb (length op), take-append_seam (c ∷ op) after, drop-append_seam (c ∷ op) after) refl

bad_operator : (cs : List ℕ) → op_len cs ≡ 0 → operator cs ≡ Err BadChar
unfolding operator
bad_operator cs e = rw e refl

pub word_complete : {text : List ℕ} {lexeme : Tok} {n : ℕ} {after : List ℕ} → Reads text lexeme n after → word text ≡ read lexeme n after
unfolding word quoted
word_complete (tokens.name {c = c} {run = run} {after = after} k r h) = rw k (name_complete (c ∷ run) after r h)
word_complete (tokens.number {c = c} {n = n} {run = run} {after = after} k r d h w) =
    let (fits, same) = fits_cap n w in
    rw k (number_with (c ∷ run) after (Some (cap n)) r d (number_complete h c run refl (digit_low c k)) ∙ rw (fits, same) refl)
word_complete (tokens.operator {c = c} {after = after} op k e) = rw k (operator_complete c op after e)
word_complete (tokens.quoted {c = c} {n = n} {cs = cs} {text = text} {after = after} k b) = rw k (body_complete b _ [] 0 (omega arith) ∙ ap (λ (m : ℕ). read (quoted_of text) m after) (zero-add n))

pub fault_complete : {text : List ℕ} {kind : Kind} → Faulty text kind → word text ≡ Err kind
unfolding word quoted
fault_complete (tokens.bad_name {c = c} {run = run} {after = after} k r h) = rw k (bad_name_complete (c ∷ run) after r h)
fault_complete (tokens.bad_number {c = c} {run = run} {after = after} k r f) = rw k (bad_number_by (c ∷ run) after _ r refl (unread c run _ (number_right c run (digit_low c k)) f))
fault_complete (tokens.dotted {c = c} {run = run} {after = after} k r d) = rw k (dotted_complete (c ∷ run) after r d)
fault_complete (tokens.too_wide {c = c} {n = n} {run = run} {after = after} k r d h w) = rw k (number_with (c ∷ run) after (Some (cap n)) r d (number_complete h c run refl (digit_low c k)) ∙ rw (wide_cap n w) refl)
fault_complete (tokens.bad_quoted {c = c} {cs = cs} k b) = rw k (bad_body_complete b _ [] 0 (omega arith))
fault_complete (tokens.bad_char {c = c} {after = after} k e) = rw k (bad_operator (c ∷ after) e)
fault_complete (tokens.bad_join k e) = rw k refl

abbrev pub Word_right : List ℕ → Reading → Type 0
Word_right text (Ok x) = Reads text x.0.lexeme x.0.lines x.1
Word_right text (Err kind) = Faulty text kind

-- the run of characters that a name or a number has, with the first one
pub record Begun (c : ℕ) (cs front rest : List ℕ) : Type 0 where
  pub run : List ℕ
  pub front_is : front ≡ c ∷ run
  pub parts : c ∷ cs ≡ c ∷ (run ++ rest)
  pub is : IsRun continues_identifier (c ∷ run) rest

begun_by : (c : ℕ) (cs front rest : List ℕ) → 0 < length front → front ++ rest ≡ c ∷ cs → IsRun continues_identifier front rest → Begun c cs front rest
begun_by c cs [] rest h p r = absurd (omega arith)
begun_by c cs (d ∷ run) rest h p r =
    let same : d ≡ c = cc in
    record { run = run; front_is = ap (λ (e : ℕ). e ∷ run) same; parts = sym p ∙ ap (λ (e : ℕ). e ∷ (run ++ rest)) same; is = subst (λ (e : ℕ). IsRun continues_identifier (e ∷ run) rest) same r }

begun : (c : ℕ) (cs : List ℕ) → 0 < prefix_len continues_identifier (c ∷ cs) → Begun c cs (take (prefix_len continues_identifier (c ∷ cs)) (c ∷ cs)) (drop (prefix_len continues_identifier (c ∷ cs)) (c ∷ cs))
begun c cs h = begun_by c cs _ _ (omega (arith, length-prefix_len continues_identifier (c ∷ cs), h)) (take-append-drop (prefix_len continues_identifier (c ∷ cs)) (c ∷ cs)) (is_run continues_identifier (c ∷ cs))

name_by : (c : ℕ) (cs : List ℕ) → class_of c ≡ Letter → (front rest : List ℕ) → Begun c cs front rest → Word_right (c ∷ cs) (if is_ident (ident_text front) then read (word_of (ident_text front)) 0 rest else Err BadChar)
name_by c cs k front rest b =
    let P : List ℕ → Type 0 = λ f. Word_right (c ∷ cs) (if is_ident (ident_text f) then read (word_of (ident_text f)) 0 rest else Err BadChar) in
    let Q : List ℕ → Type 0 = λ t. Word_right t (if is_ident (ident_text (c ∷ b.run)) then read (word_of (ident_text (c ∷ b.run))) 0 rest else Err BadChar) in
    subst P (sym b.front_is) (subst Q (sym b.parts)
    (choice (Word_right (c ∷ (b.run ++ rest))) _ _ (is_ident (ident_text (c ∷ b.run))) (λ e. tokens.name k b.is e) (λ e. tokens.bad_name k b.is e)))

name_right : (c : ℕ) (cs : List ℕ) → class_of c ≡ Letter → Word_right (c ∷ cs) (name (c ∷ cs))
unfolding name
name_right c cs k = name_by c cs k _ _ (begun c cs (letter_continues c cs k))

no_number : (c : ℕ) (run : List ℕ) → class_of c ≡ Digit → number_value (c ∷ run) ≡ None → (n : ℕ) → ¬ IsNumber (c ∷ run) n
no_number c run k e n h = let r = number_complete h c run refl (digit_low c k) in absurd cc

below_cap : (m w : ℕ) → w ≡ cap m → nat_lt w (2 ^ 127) ≡ true → (m < 2 ^ 127) × (w ≡ m)
below_cap m w e h = let l : w < 2 ^ 127 = grind (arith, nat_tests) in (omega arith, omega arith)

above_cap : (m w : ℕ) → w ≡ cap m → nat_lt w (2 ^ 127) ≡ false → 2 ^ 127 ≤ m
above_cap m w e h = let l : 2 ^ 127 ≤ w = grind (arith, nat_tests) in omega arith

number_value_right : (c : ℕ) (run rest : List ℕ) (o : Option ℕ) → class_of c ≡ Digit → IsRun continues_identifier (c ∷ run) rest → IsFalse (head_passes (λ d. d == 46) rest) → number_value (c ∷ run) ≡ o → Number_right (c ∷ run) o → Word_right (c ∷ (run ++ rest)) (number_of o rest)
number_value_right c run rest None k r d e h = tokens.bad_number k r (no_number c run k e)
number_value_right c run rest (Some w) k r d e (m, h, s) =
    choice (Word_right (c ∷ (run ++ rest))) (read (Number (pos w)) 0 rest) (Err NumberTooWide) (nat_lt w (2 ^ 127))
    (λ t. let (l, same) = below_cap m w s t in subst (λ (v : ℕ). Reads (c ∷ (run ++ rest)) (Number (pos v)) 0 rest) (sym same) (tokens.number k r d h l))
    (λ f. tokens.too_wide k r d h (above_cap m w s f))

number_by : (c : ℕ) (cs : List ℕ) → class_of c ≡ Digit → (front rest : List ℕ) → Begun c cs front rest → Word_right (c ∷ cs) (if head_passes (λ d. d == 46) rest then Err BadNumber else number_of (number_value front) rest)
number_by c cs k front rest b =
    let P : List ℕ → Type 0 = λ f. Word_right (c ∷ cs) (if head_passes (λ d. d == 46) rest then Err BadNumber else number_of (number_value f) rest) in
    let Q : List ℕ → Type 0 = λ t. Word_right t (if head_passes (λ d. d == 46) rest then Err BadNumber else number_of (number_value (c ∷ b.run)) rest) in
    subst P (sym b.front_is) (subst Q (sym b.parts)
    (choice (Word_right (c ∷ (b.run ++ rest))) (Err BadNumber) (number_of (number_value (c ∷ b.run)) rest) (head_passes (λ d. d == 46) rest)
    (λ e. tokens.dotted k b.is e)
    (λ e. number_value_right c b.run rest (number_value (c ∷ b.run)) k b.is e refl (number_right c b.run (digit_low c k)))))

number_right_at : (c : ℕ) (cs : List ℕ) → class_of c ≡ Digit → Word_right (c ∷ cs) (number (c ∷ cs))
unfolding number
number_right_at c cs k = number_by c cs k _ _ (begun c cs (digit_continues c cs k))

zero_len : (n : ℕ) → (n == 0) ≡ true → n ≡ 0
zero_len n e = grind (arith, nat_tests)

some_len : (n : ℕ) → (n == 0) ≡ false → 0 < n
some_len n e = grind (arith, nat_tests)

spelled : (c : ℕ) (cs front rest : List ℕ) (n : ℕ) → class_of c ≡ Other → front ++ rest ≡ c ∷ cs → length front ≡ n → 0 < n → op_len (c ∷ cs) ≡ n → Reads (c ∷ cs) (symbol_of front) 0 rest
spelled c cs [] rest n k p l h e = absurd (omega arith)
spelled c cs (d ∷ op) rest n k p l h e =
    let same : d ≡ c = cc in
    let whole : c ∷ (op ++ rest) ≡ c ∷ cs = ap (λ (x : ℕ). x ∷ (op ++ rest)) (sym same) ∙ p in
    let P : List ℕ → Type 0 = λ t. Reads t (symbol_of (d ∷ op)) 0 rest in
    subst P whole (subst (λ (x : ℕ). Reads (c ∷ (op ++ rest)) (symbol_of (x ∷ op)) 0 rest) (sym same) (tokens.operator op k (ap op_len whole ∙ e ∙ sym l)))

operator_by : (c : ℕ) (cs : List ℕ) → class_of c ≡ Other → (n : ℕ) → op_len (c ∷ cs) ≡ n → Word_right (c ∷ cs) (if n == 0 then Err BadChar else read (symbol_of (take n (c ∷ cs))) 0 (drop n (c ∷ cs)))
operator_by c cs k n e =
    choice (Word_right (c ∷ cs)) (Err BadChar) (read (symbol_of (take n (c ∷ cs))) 0 (drop n (c ∷ cs))) (n == 0)
    (λ z. tokens.bad_char k (e ∙ zero_len n z))
    (λ s. spelled c cs (take n (c ∷ cs)) (drop n (c ∷ cs)) n k (take-append-drop n (c ∷ cs)) (simp length-take (omega (arith, op_within (c ∷ cs), e))) (some_len n s) e)

operator_right : (c : ℕ) (cs : List ℕ) → class_of c ≡ Other → Word_right (c ∷ cs) (operator (c ∷ cs))
unfolding operator
operator_right c cs k = operator_by c cs k (op_len (c ∷ cs)) refl

quoted_by : (c : ℕ) (cs : List ℕ) → class_of c ≡ Quote → (r : Reading) → Body_right (opening_quotes c cs).0 [] 0 (opening_quotes c cs).1 r → Word_right (c ∷ cs) r
quoted_by c cs k (Ok x) h = rw (h.lexeme_is, h.lines_is, zero-add h.m) (tokens.quoted k h.is)
quoted_by c cs k (Err kind) h = tokens.bad_quoted k h

quoted_right : (c : ℕ) (cs : List ℕ) → class_of c ≡ Quote → Word_right (c ∷ cs) (quoted (c ∷ cs))
unfolding quoted
quoted_right c cs k = quoted_by c cs k _ (body_right _ (opening_quotes c cs).0 [] 0 (opening_quotes c cs).1 (omega arith))

word_right_by : (k : Class) (c : ℕ) (cs : List ℕ) → class_of c ≡ k → IsTrue (begins k cs) → Word_right (c ∷ cs) (word_by k (c ∷ cs))
word_right_by White c cs k b = absurd cc
word_right_by Hash c cs k b = absurd cc
word_right_by LineEnd c cs k b = absurd cc
word_right_by Backslash c cs k b = tokens.bad_join k (not_true (head_passes is_end cs) b)
word_right_by Digit c cs k b = number_right_at c cs k
word_right_by Quote c cs k b = quoted_right c cs k
word_right_by Letter c cs k b = name_right c cs k
word_right_by Other c cs k b = operator_right c cs k

pub word_right : (text : List ℕ) → IsTrue (begins_token text) → Word_right text (word text)
unfolding word
word_right [] b = absurd cc
word_right (c ∷ cs) b = word_right_by (class_of c) c cs refl b

pub word_shorter : {text : List ℕ} {lexeme : Tok} {n : ℕ} {after : List ℕ} → Reads text lexeme n after → length after < length text
word_shorter (tokens.name {run = run} {after = after} k r h) = omega (arith, length-append run after)
word_shorter (tokens.number {run = run} {after = after} k r d h w) = omega (arith, length-append run after)
word_shorter (tokens.operator {after = after} op k e) = omega (arith, length-append op after)
word_shorter (tokens.quoted {c = c} {cs = cs} k b) = omega (arith, body_shorter b, opening_shorter c cs)

pub word_begins : {text : List ℕ} {lexeme : Tok} {n : ℕ} {after : List ℕ} → Reads text lexeme n after → IsTrue (begins_token text)
word_begins (tokens.name k r h) = rw k refl
word_begins (tokens.number k r d h w) = rw k refl
word_begins (tokens.operator op k e) = rw k refl
word_begins (tokens.quoted k b) = rw k refl

pub fault_begins : {text : List ℕ} {kind : Kind} → Faulty text kind → IsTrue (begins_token text)
fault_begins (tokens.bad_name k r h) = rw k refl
fault_begins (tokens.bad_number k r f) = rw k refl
fault_begins (tokens.dotted k r d) = rw k refl
fault_begins (tokens.too_wide k r d h w) = rw k refl
fault_begins (tokens.bad_quoted k b) = rw k refl
fault_begins (tokens.bad_char k e) = rw k refl
fault_begins (tokens.bad_join k e) = rw (k, e) refl
