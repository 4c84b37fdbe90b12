-- The statements that open a level, where one is left, and those that open none.
use Rattle.std.proofs.Common.{◌≡◌, ℕ, zero, suc, ◌-◌, ◌<◌, Bool, true, false, List, [], ◌∷◌, length, take, drop, Option, Some, None, Result, Ok, refl, sym, subst, ◌∙◌, arith}
use Rattle.std.proofs.lemmas.List.{take_all}
use Rattle.std.specs.Borrow.{Bor}
use Rattle.source_combinators.specs.declared.fault.ReadError.{ReadError}
use Rattle.source_combinators.specs.Reading.{Read, ◌>>=◌, given, head_of}
use Rattle.source_combinators.specs.Outcome.{GivesAt}
use Rattle.py_syntax.specs.declared.lexeme.Lexeme.{Lexeme}
use Rattle.py_syntax.specs.declared.lexeme.Lexeme.TheVariants as token
use Rattle.py_syntax.specs.declared.expr.Expr.{Expr}
use Rattle.py_syntax.specs.declared.context.Context.{Context}
use Rattle.source_spec_statements.specs.Reading.{Stmts as Found, Reader, Handlers, stmt, if_rest, while_rest, try_rest, line_block, handler_rest, caught, colon_block, with_handler}
use Rattle.source_parse_statements.specs.declared.parts.Stmts.{Stmts}
use Rattle.source_parse_statements.specs.Views.{stmts_of}

abbrev Answer : Type 0
Answer = Result (Stmts × Bor (List Lexeme)) ReadError

-- ---- the first token and the others

-- the tokens behind the first one, as code takes them
abbrev pub behind : List Lexeme → List Lexeme
behind ts = take (length ts - 1) (drop 1 ts)

pub first_and_others : (t : Lexeme) (ts : List Lexeme) → head_of ts ≡ Some t → ts ≡ t ∷ behind ts
first_and_others t [] h = absurd cc
first_and_others t (u ∷ us) h =
    let e : u ≡ t = cc in
    let whole : take (length (u ∷ us) - 1) us ≡ us = take_all (length (u ∷ us) - 1) us (omega arith) in
    subst (λ (vs : List Lexeme). u ∷ us ≡ t ∷ vs) (sym whole) (subst (λ (v : Lexeme). u ∷ us ≡ v ∷ us) e refl)

-- ---- `if`, `while` and `try`

if_opened : (room : ℕ) (c : Context) (n : ℕ) (ts : List Lexeme) → ¬ (room ≡ 0) → stmt room c n (token.If ∷ ts) ≡ if_rest (stmt (room - 1)) (room - 1) c n ts
unfolding stmt
if_opened zero c n ts h = absurd (h refl)
if_opened (suc room) c n ts h = let e : suc room - 1 ≡ room = omega arith in rw e refl

while_opened : (room : ℕ) (c : Context) (n : ℕ) (ts : List Lexeme) → ¬ (room ≡ 0) → stmt room c n (token.While ∷ ts) ≡ while_rest (stmt (room - 1)) (room - 1) c n ts
unfolding stmt
while_opened zero c n ts h = absurd (h refl)
while_opened (suc room) c n ts h = let e : suc room - 1 ≡ room = omega arith in rw e refl

try_opened : (room : ℕ) (c : Context) (n : ℕ) (ts : List Lexeme) → ¬ (room ≡ 0) → stmt room c n (token.Try ∷ ts) ≡ try_rest (stmt (room - 1)) (room - 1) c n ts
unfolding stmt
try_opened zero c n ts h = absurd (h refl)
try_opened (suc room) c n ts h = let e : suc room - 1 ≡ room = omega arith in rw e refl

gives_as : (r : Answer) (read other : Read Lexeme Found) → other ≡ read → GivesAt stmts_of r read → GivesAt stmts_of r other
gives_as r read other e g = subst (λ (x : Read Lexeme Found). GivesAt stmts_of r x) (sym e) g

pub gives_if : (r : Answer) (room : ℕ) (c : Context) (n : ℕ) (ts : List Lexeme) → ¬ (room ≡ 0) → head_of ts ≡ Some token.If → GivesAt stmts_of r (if_rest (stmt (room - 1)) (room - 1) c n (behind ts)) → GivesAt stmts_of r (stmt room c n ts)
gives_if r room c n ts h e g = gives_as r _ _ (subst (λ (us : List Lexeme). stmt room c n us ≡ if_rest (stmt (room - 1)) (room - 1) c n (behind ts)) (sym (first_and_others token.If ts e)) (if_opened room c n (behind ts) h)) g

pub gives_while : (r : Answer) (room : ℕ) (c : Context) (n : ℕ) (ts : List Lexeme) → ¬ (room ≡ 0) → head_of ts ≡ Some token.While → GivesAt stmts_of r (while_rest (stmt (room - 1)) (room - 1) c n (behind ts)) → GivesAt stmts_of r (stmt room c n ts)
gives_while r room c n ts h e g = gives_as r _ _ (subst (λ (us : List Lexeme). stmt room c n us ≡ while_rest (stmt (room - 1)) (room - 1) c n (behind ts)) (sym (first_and_others token.While ts e)) (while_opened room c n (behind ts) h)) g

pub gives_try : (r : Answer) (room : ℕ) (c : Context) (n : ℕ) (ts : List Lexeme) → ¬ (room ≡ 0) → head_of ts ≡ Some token.Try → GivesAt stmts_of r (try_rest (stmt (room - 1)) (room - 1) c n (behind ts)) → GivesAt stmts_of r (stmt room c n ts)
gives_try r room c n ts h e g = gives_as r _ _ (subst (λ (us : List Lexeme). stmt room c n us ≡ try_rest (stmt (room - 1)) (room - 1) c n (behind ts)) (sym (first_and_others token.Try ts e)) (try_opened room c n (behind ts) h)) g

-- ---- lines

-- whether a token opens a statement of several lines
abbrev pub opens : Option Lexeme → Bool
opens (Some token.If) = true
opens (Some token.While) = true
opens (Some token.Try) = true
opens (Some token.Def) = true
opens t = false

line_read : (room : ℕ) (c : Context) (n : ℕ) (ts : List Lexeme) → opens (head_of ts) ≡ false → stmt room c n ts ≡ line_block c n room ts
unfolding stmt
line_read zero c n [] h = refl
line_read (suc room) c n [] h = refl
line_read zero c n (token.If ∷ ts) h = absurd cc
line_read (suc room) c n (token.If ∷ ts) h = absurd cc
line_read zero c n (token.While ∷ ts) h = absurd cc
line_read (suc room) c n (token.While ∷ ts) h = absurd cc
line_read zero c n (token.Try ∷ ts) h = absurd cc
line_read (suc room) c n (token.Try ∷ ts) h = absurd cc
line_read zero c n (token.Def ∷ ts) h = absurd cc
line_read (suc room) c n (token.Def ∷ ts) h = absurd cc
line_read zero c n (t ∷ ts) h = refl
line_read (suc room) c n (t ∷ ts) h = refl

pub gives_line : (r : Answer) (room : ℕ) (c : Context) (n : ℕ) (ts : List Lexeme) → opens (head_of ts) ≡ false → GivesAt stmts_of r (line_block c n room ts) → GivesAt stmts_of r (stmt room c n ts)
gives_line r room c n ts e g = gives_as r _ _ (line_read room c n ts e) g

-- ---- handlers

abbrev pub is_colon : Option Lexeme → Bool
is_colon (Some token.Colon) = true
is_colon t = false

pub no_first : (ts : List Lexeme) → length ts < 1 → is_colon (head_of ts) ≡ false
no_first [] h = refl
no_first (t ∷ ts) h = absurd (omega arith)

abbrev kinds_and_block : Reader → ℕ → Context → Handlers → List Lexeme → Read Lexeme Handlers
kinds_and_block inner room c s ts = caught room ts >>= λ k. colon_block inner room c s.next k.1 >>= λ b. given (with_handler s.found (Some k.0.0) k.0.1 b.0 true) b.1

kinds_first : (inner : Reader) (room : ℕ) (c : Context) (s : Handlers) (ts : List Lexeme) → is_colon (head_of ts) ≡ false → handler_rest inner room c s ts ≡ kinds_and_block inner room c s ts
unfolding handler_rest
kinds_first inner room c s [] h = refl
kinds_first inner room c s (token.Colon ∷ ts) h = absurd cc
kinds_first inner room c s (t ∷ ts) h = refl

pub handler_read : (inner : Reader) (room : ℕ) (c : Context) (s : Handlers) (ts us vs : List Lexeme) (k : Expr × Option (List ℕ)) (b : Found) (h : Handlers) → is_colon (head_of ts) ≡ false → caught room ts ≡ Ok (k, us) → colon_block inner room c s.next us ≡ Ok (b, vs) → h ≡ with_handler s.found (Some k.0) k.1 b true → handler_rest inner room c s ts ≡ Ok (h, vs)
handler_read inner room c s ts us vs k b h e p q w = kinds_first inner room c s ts e ∙ rw (p, q, w) refl
