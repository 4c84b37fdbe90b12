-- Tokens with a text, and faults in their place (Language Reference 2.3 to 2.6).
use Rattle.std.specs.Prelude.{pos, ◌≡◌, ℕ, suc, ◌^◌, ◌<◌, ◌≤◌, ◌==◌, Bool, true, false, not, List, [], ◌∷◌, ◌++◌, length, IsTrue, IsFalse}
use Rattle.py_lexer.specs.declared.chars.Class.{Class}
use Rattle.py_lexer.specs.declared.chars.Class.TheVariants.{White, Hash, LineEnd, Backslash, Digit, Quote, Letter, Other}
use Rattle.py_lexer.specs.declared.error.Kind.{Kind}
use Rattle.py_lexer.specs.declared.error.Kind.TheVariants.{BadChar, BadNumber, NumberTooWide}
use Rattle.spec_core.specs.Identifiers.{continues_identifier}
use Rattle.py_lexer.specs.Chars.{class_of, is_end, head_passes, IsRun}
use Rattle.py_lexer.specs.Names.{is_ident, ident_text, word_of}
use Rattle.py_lexer.specs.Numbers.{IsNumber}
use Rattle.py_lexer.specs.Operators.{op_len}
use Rattle.py_lexer.specs.Quoted.{Body, Bad_body}
use Rattle.py_lexer.specs.Strings.{opening_quotes}
use Rattle.py_lexer.specs.TokenList.{quoted_of, symbol_of}
use Rattle.py_lexer.specs.declared.word.Tok.{Tok}
use Rattle.py_lexer.specs.declared.word.Tok.TheVariants.{Number}

-- a token, or a fault in its place, stands at the front
abbrev pub begins : Class → List ℕ → Bool
begins White cs = false
begins Hash cs = false
begins LineEnd cs = false
begins Backslash cs = not (head_passes is_end cs)
begins Digit cs = true
begins Quote cs = true
begins Letter cs = true
begins Other cs = true

-- the same of a text: nothing begins at its end
abbrev pub begins_token : List ℕ → Bool
begins_token [] = false
begins_token (c ∷ cs) = begins (class_of c) cs

-- A token at the front, over so many line ends, and what follows it. Each takes as many characters as it can.
pub data Reads : List ℕ → Tok → ℕ → List ℕ → Type 0 where
  -- an identifier, `_` or XID_Start and then `_` or XID_Continue (Language Reference 2.3): its text is its NFKC form
  name : {c : ℕ} {run after : List ℕ} → class_of c ≡ Letter → IsRun continues_identifier (c ∷ run) after → IsTrue (is_ident (ident_text (c ∷ run))) → Reads (c ∷ (run ++ after)) (word_of (ident_text (c ∷ run))) 0 after
  -- a number, not directly followed by an identifier character or `.` (46), and below 2^127 (2.4.5)
  number : {c n : ℕ} {run after : List ℕ} → class_of c ≡ Digit → IsRun continues_identifier (c ∷ run) after → IsFalse (head_passes (λ d. d == 46) after) → IsNumber (c ∷ run) n → n < 2 ^ 127 → Reads (c ∷ (run ++ after)) (Number (pos n)) 0 after
  -- an operator or a delimiter, the longest first (2.5, 2.6)
  operator : {c : ℕ} {after : List ℕ} (op : List ℕ) → class_of c ≡ Other → op_len (c ∷ (op ++ after)) ≡ suc (length op) → Reads (c ∷ (op ++ after)) (symbol_of (c ∷ op)) 0 after
  -- a string (2.4.1)
  quoted : {c n : ℕ} {cs text after : List ℕ} → class_of c ≡ Quote → Body (opening_quotes c cs).0 (opening_quotes c cs).1 text n after → Reads (c ∷ cs) (quoted_of text) n after

-- What stands at the front is a fault.
pub data Faulty : List ℕ → Kind → Type 0 where
  -- an identifier whose NFKC form is none
  bad_name : {c : ℕ} {run after : List ℕ} → class_of c ≡ Letter → IsRun continues_identifier (c ∷ run) after → IsFalse (is_ident (ident_text (c ∷ run))) → Faulty (c ∷ (run ++ after)) BadChar
  -- a number with another digit after a leading zero, a `_` that stands elsewhere, or an identifier character behind it
  bad_number : {c : ℕ} {run after : List ℕ} → class_of c ≡ Digit → IsRun continues_identifier (c ∷ run) after → ((n : ℕ) → ¬ IsNumber (c ∷ run) n) → Faulty (c ∷ (run ++ after)) BadNumber
  -- a number with a `.` behind it
  dotted : {c : ℕ} {run after : List ℕ} → class_of c ≡ Digit → IsRun continues_identifier (c ∷ run) after → IsTrue (head_passes (λ d. d == 46) after) → Faulty (c ∷ (run ++ after)) BadNumber
  -- a number above 2^127 - 1
  too_wide : {c n : ℕ} {run after : List ℕ} → class_of c ≡ Digit → IsRun continues_identifier (c ∷ run) after → IsFalse (head_passes (λ d. d == 46) after) → IsNumber (c ∷ run) n → 2 ^ 127 ≤ n → Faulty (c ∷ (run ++ after)) NumberTooWide
  -- a string that does not end, or with another escape
  bad_quoted : {c : ℕ} {cs : List ℕ} {kind : Kind} → class_of c ≡ Quote → Bad_body (opening_quotes c cs).0 (opening_quotes c cs).1 kind → Faulty (c ∷ cs) kind
  -- any other character
  bad_char : {c : ℕ} {after : List ℕ} → class_of c ≡ Other → op_len (c ∷ after) ≡ 0 → Faulty (c ∷ after) BadChar
  -- a backslash that is not directly before a line end
  bad_join : {c : ℕ} {after : List ℕ} → class_of c ≡ Backslash → IsFalse (head_passes is_end after) → Faulty (c ∷ after) BadChar
