-- Each source gives one tree or one refusal.
use Rattle.std.proofs.Common.{◌≡◌, ℕ, suc, List, [], ◌∷◌, ◌++◌, length, Ok, Err, refl, sym, ap, subst, ◌∙◌, arith, length-append}
use Rattle.source_combinators.specs.declared.fault.Fault.{Fault}
use Rattle.source_combinators.specs.Refusals.{IsFirstRefused}
use Rattle.source_combinators.proofs.Theorem.{one_value}
use Rattle.py_lexer.specs.declared.error.LexError.{LexError}
use Rattle.py_lexer.specs.declared.word.Token.{Token}
use Rattle.py_lexer.specs.Source.{Tokens}
use Rattle.py_lexer.proofs.Sources.{one_answer}
use Rattle.py_syntax.specs.declared.lexeme.Lexeme.{Lexeme}
use Rattle.py_syntax.specs.declared.stmt.Script.{Script}
use Rattle.py_syntax.specs.Grammar.{Spells}
use Rattle.source_spec_statements.specs.Reading.{script}
use Rattle.source_spec_statements.proofs.Whole.{script_reader}
use Rattle.py_parser.specs.Words.{lexemes_of}
use Rattle.py_parser.specs.declared.error.ParseError.{ParseError}
use Rattle.py_parser.specs.declared.error.ParseError.TheVariants as error
use Rattle.py_parser.specs.Kinds.{refusal_of}
use Rattle.py_parser.specs.Places.{inside_finally}
use Rattle.py_parser.specs.Parses as parsed
use Rattle.py_parser.specs.Parses.{Answer, Reads, Parses, Told, Told_error}
use Rattle.py_parser.proofs.Refused.{same, longer, shorter, cuts, spelled_not_refused, one_refusal}

-- a list of some length has a first item
pub record Some_first {T : Type 0} (l : List T) : Type 0 where
  pub first : T
  pub others : List T
  pub parts : l ≡ first ∷ others

first_of : {T : Type 0} (l : List T) (n : ℕ) → length l ≡ suc n → Some_first l
first_of [] n e = absurd (omega (arith, e))
first_of (t ∷ ts) n e = record { first = t; others = ts; parts = refl }

-- the refused token is there
pub rest_of : (room : ℕ) (ls : List Lexeme) (fault : Fault) (r : IsFirstRefused Spells room ls fault) (n : ℕ) → fault.left ≡ suc n → Some_first r.rest
rest_of room ls fault r n e = first_of r.rest n (sym r.left ∙ e)

-- the parts of a list, by the length of the second
same_parts : {T : Type 0} (f r g s : List T) → f ++ r ≡ g ++ s → length r ≡ length s → (f ≡ g) × (r ≡ s)
same_parts f r g s e n = elim (cuts f r g s e) [
  | same a b ↦ (a, b)
  | longer t more a b ↦ let k = ap length b in absurd (omega (arith, n, k, length-append more s))
  | shorter t more a b ↦ let k = ap length b in absurd (omega (arith, n, k, length-append more r))
]

same_tokens : (src : List ℕ) (ts us : List Token) → Tokens src (Ok ts) → Tokens src (Ok us) → ts ≡ us
same_tokens src ts us h k = let e = one_answer src (Ok ts) (Ok us) h k in cc

same_error : (src : List ℕ) (e f : LexError) → Tokens src (Err e) → Tokens src (Err f) → e ≡ f
same_error src e f h k = let p = one_answer src (Err e) (Err f) h k in cc

no_error : (src : List ℕ) (e : LexError) (ts : List Token) → Tokens src (Err e) → Tokens src (Ok ts) → ⊥
no_error src e ts h k = let p = one_answer src (Err e) (Ok ts) h k in absurd cc

abbrev IsRefused : List Token → Fault → Type 0
IsRefused ts fault = IsFirstRefused Spells 64 (lexemes_of ts) fault

both : (ts : List Token) (s : Script) (fault : Fault) (n : ℕ) → Spells 64 (lexemes_of ts) s → IsRefused ts fault → fault.left ≡ suc n → ⊥
both ts s fault n h r e =
    let some = rest_of 64 (lexemes_of ts) fault r n e in
    spelled_not_refused Spells 64 (lexemes_of ts) s fault some.first some.others r some.parts h

same_fault : (ts : List Token) (f g : Fault) (m n : ℕ) → IsRefused ts f → IsRefused ts g → f.left ≡ suc m → g.left ≡ suc n → f ≡ g
same_fault ts f g m n p q d e =
    let a = rest_of 64 (lexemes_of ts) f p m d in
    let b = rest_of 64 (lexemes_of ts) g q n e in
    one_refusal Spells 64 (lexemes_of ts) f g p q a.first b.first a.others b.others a.parts b.parts

abbrev refusal_at : Fault → List Token → Token → Answer
refusal_at fault front t = Err (refusal_of fault.kind (inside_finally (lexemes_of front)) t)

same_refusal : (ts front rest before behind : List Token) (t u : Token) (f g : Fault) → ts ≡ front ++ t ∷ rest → ts ≡ before ++ u ∷ behind → IsRefused ts f → IsRefused ts g → f.left ≡ suc (length rest) → g.left ≡ suc (length behind) → refusal_at f front t ≡ refusal_at g before u
same_refusal ts front rest before behind t u f g p q r s d e =
    let faults : f ≡ g = same_fault ts f g (length rest) (length behind) r s d e in
    let lefts : f.left ≡ g.left = ap (λ (x : Fault). x.left) faults in
    let lengths : length (t ∷ rest) ≡ length (u ∷ behind) = omega (arith, lefts, d, e) in
    let (a, b) = same_parts front (t ∷ rest) before (u ∷ behind) (sym p ∙ q) lengths in
    let tokens : t ≡ u = cc in
    ap (λ (x : Fault). refusal_at x front t) faults ∙ ap (λ (l : List Token). refusal_at g l t) a ∙ ap (refusal_at g before) tokens

one_reading : (ts : List Token) (a b : Answer) → Reads ts a → Reads ts b → a ≡ b
one_reading ts a b (parsed.spelled {script = x} s) (parsed.spelled {script = y} u) = ap (λ (z : Script). Ok z) (one_value script Spells script_reader 64 (lexemes_of ts) x y s u)
one_reading ts a b (parsed.spelled {script = x} s) (parsed.refused front rest t {fault = fault} p r l) = absurd (both ts x fault (length rest) s r l)
one_reading ts a b (parsed.refused front rest t {fault = fault} p r l) (parsed.spelled {script = y} u) = absurd (both ts y fault (length rest) u r l)
one_reading ts a b (parsed.refused front rest t {fault = f} p r l) (parsed.refused before behind u {fault = g} q s m) = same_refusal ts front rest before behind t u f g p q r s l m

pub one_parse : (src : List ℕ) (a b : Answer) → Parses src a → Parses src b → a ≡ b
one_parse src a b (parsed.no_tokens {e = e} h) (parsed.no_tokens {e = f} k) = ap (λ (x : LexError). Err (error.Lex x)) (same_error src e f h k)
one_parse src a b (parsed.no_tokens {e = e} h) (parsed.with_tokens {ts = ts} k s) = absurd (no_error src e ts h k)
one_parse src a b (parsed.with_tokens {ts = ts} h s) (parsed.no_tokens {e = e} k) = absurd (no_error src e ts k h)
one_parse src a b (parsed.with_tokens {ts = ts} h s) (parsed.with_tokens {ts = us} k u) = one_reading ts a b s (subst (λ (l : List Token). Reads l b) (sym (same_tokens src ts us h k)) u)

told_error : (src : List ℕ) (answer : Answer) (e : ParseError) → Parses src answer → Told_error (Parses src) e → Told_error (λ told. told ≡ answer) e
told_error src answer error.NoMemory h k = tt
told_error src answer (error.Lex e) h k = one_parse src (Err (error.Lex e)) answer k h
told_error src answer (error.Syntax line) h k = one_parse src (Err (error.Syntax line)) answer k h
told_error src answer (error.TooDeep line) h k = one_parse src (Err (error.TooDeep line)) answer k h
told_error src answer (error.Profile line what) h k = one_parse src (Err (error.Profile line what)) answer k h

pub told_only : (src : List ℕ) (r : Answer) → Told (Parses src) r → (answer : Answer) → Parses src answer → Told (λ told. told ≡ answer) r
told_only src (Ok s) h answer k = one_parse src (Ok s) answer h k
told_only src (Err e) h answer k = told_error src answer e k h
