-- What is answered where a token is refused, and where there are no tokens.
use Rattle.std.proofs.Common.{◌≡◌, ℕ, zero, suc, ◌-◌, ◌<◌, ◌≤◌, Bool, List, [], ◌∷◌, ◌++◌, length, take, drop, Option, Some, None, Result, Ok, Err, refl, sym, ap, subst, ◌∙◌, append_assoc, append-nil, length-append, arith}
use Rattle.std.specs.List.{slice_get}
use Rattle.std.proofs.lemmas.Option.{slice_get_within}
use Rattle.std.proofs.lemmas.List.{length-map, length-drop, take-map}
use Rattle.source_combinators.specs.declared.fault.Refusal.{Refusal}
use Rattle.source_combinators.specs.declared.fault.Refusal.TheVariants.{TooDeep, Syntax}
use Rattle.source_combinators.specs.declared.fault.Fault.{Fault}
use Rattle.source_combinators.specs.declared.fault.ReadError.{ReadError}
use Rattle.source_combinators.specs.declared.fault.ReadError.TheVariants.{Refused}
use Rattle.source_combinators.specs.Outcome.{Gives}
use Rattle.source_combinators.specs.Refusals.{IsViable, IsFirstRefused}
use Rattle.py_lexer.specs.declared.error.LexError.{LexError}
use Rattle.py_lexer.specs.declared.error.LexError.TheVariants as lex
use Rattle.py_lexer.specs.declared.word.Token.{Token}
use Rattle.py_lexer.specs.Scanning as scanning
use Rattle.py_lexer.specs.Source.{Tokens}
use Rattle.py_syntax.specs.declared.lexeme.Lexeme.{Lexeme}
use Rattle.py_syntax.specs.declared.lexeme.Lexeme.TheVariants as token
use Rattle.py_syntax.specs.declared.stmt.Script.{Script}
use Rattle.py_syntax.specs.Grammar.{Spells}
use Rattle.py_parser.specs.Words.{lexeme_at, lexemes_of}
use Rattle.py_parser.specs.declared.error.ParseError.{ParseError}
use Rattle.py_parser.specs.declared.error.ParseError.TheVariants as error
use Rattle.py_parser.specs.Kinds.{what_of, by_what, refusal_of, without_tokens}
use Rattle.py_parser.specs.Places.{inside_finally}
use Rattle.py_parser.specs.Parses as parsed
use Rattle.py_parser.specs.Parses.{Answer, Reads, Parses, Ends, Told, Told_error}
use Rattle.py_parser.proofs.Ends.{nothing_behind}
use Rattle.py_parser.proofs.LastToken.{lexemes_end}

-- ---- no tokens

pub told_lexer : (src : List ℕ) (e : LexError) → scanning.Told (Tokens src) (Err e) → Told_error (Parses src) (without_tokens e)
told_lexer src lex.NoMemory h = tt
told_lexer src lex.TooLong h = parsed.no_tokens h
told_lexer src (lex.NotUtf8 line) h = parsed.no_tokens h
told_lexer src (lex.BadChar line) h = parsed.no_tokens h
told_lexer src (lex.BadNumber line) h = parsed.no_tokens h
told_lexer src (lex.NumberTooWide line) h = parsed.no_tokens h
told_lexer src (lex.OpenString line) h = parsed.no_tokens h
told_lexer src (lex.BadEscape line) h = parsed.no_tokens h
told_lexer src (lex.BadDedent line) h = parsed.no_tokens h
told_lexer src (lex.MixedTabs line) h = parsed.no_tokens h

-- ---- a refused token

told_what : (P : Answer → Type 0) (what : Option (List ℕ)) (line : ℕ) → P (Err (by_what what line)) → Told_error P (by_what what line)
told_what P (Some what) line h = h
told_what P None line h = h

told_refusal : (P : Answer → Type 0) (kind : Refusal) (inside : Bool) (t : Token) → P (Err (refusal_of kind inside t)) → Told_error P (refusal_of kind inside t)
told_refusal P TooDeep inside t h = h
told_refusal P Syntax inside t h = told_what P (what_of inside t.kind) t.line h

-- the token at a place stands between those before and those behind it
pub cut_at : (ts : List Token) (k : ℕ) (t : Token) → slice_get ts k ≡ Some t → ts ≡ take k ts ++ t ∷ drop (suc k) ts
cut_at [] k t e = absurd cc
cut_at (x ∷ xs) zero t e = let p : x ≡ t = cc in ap (λ (y : Token). y ∷ xs) p
cut_at (x ∷ xs) (suc k) t e = ap (λ (l : List Token). x ∷ l) (cut_at xs k t e)

-- how many are left from it on
pub left_at : (ts : List Token) (left : ℕ) (t : Token) → left ≤ length ts → slice_get ts (length ts - left) ≡ Some t → left ≡ suc (length (drop (suc (length ts - left)) ts))
left_at ts left t within e =
    let inside : length ts - left < length ts = slice_get_within ts (length ts - left) t e in
    let behind : length (drop (suc (length ts - left)) ts) ≡ length ts - suc (length ts - left) = length-drop (suc (length ts - left)) ts in
    omega arith

abbrev pub IsRefused : List Token → Fault → Type 0
IsRefused ts fault = IsFirstRefused Spells 64 (lexemes_of ts) fault

pub told_refused : (ts : List Token) (fault : Fault) (t : Token) (e : ParseError) → IsRefused ts fault → fault.left ≤ length ts → slice_get ts (length ts - fault.left) ≡ Some t → e ≡ refusal_of fault.kind (inside_finally (take (length ts - fault.left) (lexemes_of ts))) t → Told_error (Reads ts) e
told_refused ts fault t e r within found same =
    let k : ℕ = length ts - fault.left in
    let reads : Reads ts (Err (refusal_of fault.kind (inside_finally (lexemes_of (take k ts))) t)) = parsed.refused (take k ts) (drop (suc k) ts) t (cut_at ts k t found) r (left_at ts fault.left t within found) in
    let front : lexemes_of (take k ts) ≡ take k (lexemes_of ts) = sym (take-map lexeme_at k ts) in
    let told : Told_error (Reads ts) (refusal_of fault.kind (inside_finally (lexemes_of (take k ts))) t) = told_refusal (Reads ts) fault.kind (inside_finally (lexemes_of (take k ts))) t reads in
    subst (λ (x : ParseError). Told_error (Reads ts) x) (ap (λ (l : List Lexeme). refusal_of fault.kind (inside_finally l) t) front ∙ sym same) told

-- ---- the refused token is one of the tokens

nothing : {T : Type 0} (l : List T) → length l ≡ 0 → l ≡ []
nothing [] e = refl
nothing (t ∷ l) e = absurd (omega (arith, e))

-- Were all tokens taken, what they begin would be a script, since nothing stands behind END.
pub whole : (ts : List Token) (fault : Fault) → Ends ts → IsRefused ts fault → fault.left ≡ 0 → (script : Script) × Spells 64 (lexemes_of ts) script
whole ts fault ends r e =
    let rest : r.rest ≡ [] = nothing r.rest (sym r.left ∙ e) in
    let front : lexemes_of ts ≡ r.front = r.parts ∙ ap (λ (l : List Lexeme). r.front ++ l) rest ∙ append-nil r.front in
    let v : IsViable Spells 64 r.front = r.before in
    let tokens : r.front ++ v.rest ≡ lexemes_of ends.front ++ token.End ∷ v.rest = ap (λ (l : List Lexeme). l ++ v.rest) (sym front ∙ lexemes_end ts ends) ∙ append_assoc (lexemes_of ends.front) (token.End ∷ []) v.rest in
    let behind : v.rest ≡ [] = nothing_behind 64 (lexemes_of ends.front) v.rest v.value (subst (λ (l : List Lexeme). Spells 64 l v.value) tokens v.spelled) in
    (v.value, subst (λ (l : List Lexeme). Spells 64 l v.value) (ap (λ (l : List Lexeme). r.front ++ l) behind ∙ append-nil r.front ∙ sym front) v.spelled)

pub left_within : (ts : List Token) (fault : Fault) → IsRefused ts fault → fault.left ≤ length ts
left_within ts fault r =
    let parts : length (lexemes_of ts) ≡ length (r.front ++ r.rest) = ap length r.parts in
    omega (arith, parts, length-append r.front r.rest, length-map ts lexeme_at, r.left)

pub positive : (n : ℕ) → ¬ (n ≡ 0) → 0 < n
positive zero h = absurd (h refl)
positive (suc n) h = omega arith

-- A script would have been read.
abbrev Reading : Type 0
Reading = Result Script ReadError

abbrev ReadsAll : List Token → Reading → Type 0
ReadsAll ts r = (script : Script) → Spells 64 (lexemes_of ts) script → Gives (λ x. x) r (Ok script)

not_read : (ts : List Token) (r : Reading) (fault : Fault) (script : Script) → r ≡ Err (Refused fault) → Spells 64 (lexemes_of ts) script → ¬ ReadsAll ts r
not_read ts r fault script e h only =
    let read : Gives (λ x. x) (Err (Refused fault)) (Ok script) = subst (λ (x : Reading). Gives (λ y. y) x (Ok script)) e (only script h) in
    absurd cc

pub left_some : (ts : List Token) (r : Reading) (fault : Fault) → Ends ts → IsRefused ts fault → r ≡ Err (Refused fault) → ReadsAll ts r → 0 < fault.left
left_some ts r fault ends refused e only = positive fault.left (λ z. let (script, h) = whole ts fault ends refused z in not_read ts r fault script e h only)

pub token_at : (ts : List Token) (k : ℕ) → k < length ts → (t : Token) × (slice_get ts k ≡ Some t)
token_at [] k h = absurd (omega arith)
token_at (t ∷ ts) zero h = (t, refl)
token_at (t ∷ ts) (suc k) h = token_at ts k (omega arith)

pub told_fault : (ts : List Token) (fault : Fault) (e : ParseError) → IsRefused ts fault → 0 < fault.left → ((t : Token) → slice_get ts (length ts - fault.left) ≡ Some t → e ≡ refusal_of fault.kind (inside_finally (take (length ts - fault.left) (lexemes_of ts))) t) → Told_error (Reads ts) e
told_fault ts fault e r some same =
    let within : fault.left ≤ length ts = left_within ts fault r in
    let (t, found) = token_at ts (length ts - fault.left) (omega arith) in
    told_refused ts fault t e r within found (same t found)

-- ---- a source with tokens

told_parsed_error : (src : List ℕ) (ts : List Token) (e : ParseError) → Tokens src (Ok ts) → Told_error (Reads ts) e → Told_error (Parses src) e
told_parsed_error src ts error.NoMemory h k = tt
told_parsed_error src ts (error.Lex e) h k = parsed.with_tokens h k
told_parsed_error src ts (error.Syntax line) h k = parsed.with_tokens h k
told_parsed_error src ts (error.TooDeep line) h k = parsed.with_tokens h k
told_parsed_error src ts (error.Profile line what) h k = parsed.with_tokens h k

pub told_parsed : (src : List ℕ) (ts : List Token) (r : Answer) → Tokens src (Ok ts) → Told (Reads ts) r → Told (Parses src) r
told_parsed src ts (Ok script) h k = parsed.with_tokens h k
told_parsed src ts (Err e) h k = told_parsed_error src ts e h k
