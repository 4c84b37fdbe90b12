-- What is printed of the parameters of a function and of its `global` lines spells them.
use Rattle.std.proofs.Common.{◌≡◌, ◌∙◌, refl, sym, subst, ℕ, Bool, true, false, List, [], ◌∷◌, ◌++◌, append-nil, append_assoc}
use Rattle.source_combinators.specs.Separated.{IsSeparated, one, more}
use Rattle.py_syntax.specs.declared.lexeme.Lexeme.{Lexeme}
use Rattle.py_syntax.specs.declared.lexeme.Lexeme.TheVariants as token
use Rattle.py_syntax.specs.Statements as grammar
use Rattle.py_syntax.specs.Statements.{is_among, IsParameters, IsGlobal, IsGlobalLines}
use Rattle.source_print.specs.Statements.{names_with, global_line}

-- ---- parameters

-- those behind the ones that are found
record Behind (found : List (List ℕ)) (room : ℕ) (all : List (List ℕ)) : Type 0 where
  others : List (List ℕ)
  together : found ++ others ≡ all
  is_open : Bool
  spelled : IsParameters found room (names_with token.Comma others) (all, is_open)

-- one more before them
one_before : (found : List (List ℕ)) (room : ℕ) (all : List (List ℕ)) (n : List ℕ) → is_among n found ≡ false → (others : List (List ℕ)) (is_open : Bool) → (found ++ n ∷ []) ++ others ≡ all
    → IsParameters (found ++ n ∷ []) room (names_with token.Comma others) (all, is_open) → Behind found room all
one_before found room all n h [] is_open same spelled =
    let is : found ++ n ∷ [] ≡ all = sym (append-nil (found ++ n ∷ [])) ∙ same in
    record { others = n ∷ []; together = is; is_open = false; spelled = subst (λ ns. IsParameters found room (names_with token.Comma (n ∷ [])) (ns, false)) is (grammar.last_parameter n h) }
one_before found room all n h (m ∷ others) is_open same spelled =
    record { others = n ∷ m ∷ others; together = sym (append_assoc found (n ∷ []) (m ∷ others)) ∙ same; is_open = is_open; spelled = grammar.next_parameter n h spelled }

behind : (found : List (List ℕ)) (room : ℕ) (ts : List Lexeme) (all : List (List ℕ) × Bool) → IsParameters found room ts all → Behind found room all.0
behind found room ts all grammar.no_parameters = record { others = []; together = append-nil found; is_open = true; spelled = grammar.no_parameters }
behind found room ts all (grammar.last_parameter n h) = record { others = n ∷ []; together = refl; is_open = false; spelled = grammar.last_parameter n h }
behind found room ts all (grammar.next_parameter {ts = us} {all = al} n h k) =
    let b = behind (found ++ n ∷ []) room us al k in
    one_before found room al.0 n h b.others b.is_open b.together b.spelled

pub parameters_printed : (room : ℕ) (ts : List Lexeme) (all : List (List ℕ) × Bool) → IsParameters [] room ts all → (is_open : Bool) × IsParameters [] room (names_with token.Comma all.0) (all.0, is_open)
parameters_printed room ts all h =
    let b = behind [] room ts all h in
    (b.is_open, subst (λ ns. IsParameters [] room (names_with token.Comma ns) (all.0, b.is_open)) b.together b.spelled)

-- ---- `global` lines

abbrev Allowed : List (List ℕ) → List (List ℕ) → Type 0
Allowed parameters [] = Unit {0}
Allowed parameters (n ∷ ns) = (is_among n parameters ≡ false) × Allowed parameters ns

both_allowed : (parameters ns ms : List (List ℕ)) → Allowed parameters ns → Allowed parameters ms → Allowed parameters (ns ++ ms)
both_allowed parameters [] ms h k = k
both_allowed parameters (n ∷ ns) ms h k = (h.0, both_allowed parameters ns ms h.1 k)

allowed : (parameters : List (List ℕ)) (room : ℕ) (ts : List Lexeme) (n : List ℕ) → IsGlobal parameters room ts n → is_among n parameters ≡ false
allowed parameters room ts n (grammar.global m h) = h

all_allowed : (parameters : List (List ℕ)) (room : ℕ) (ts : List Lexeme) (ns : List (List ℕ)) → IsSeparated token.Comma (IsGlobal parameters) room ts ns → Allowed parameters ns
all_allowed parameters room ts ns (one {ts = us} {a = n} h) = (allowed parameters room us n h, tt)
all_allowed parameters room ts ns (more {xs = xs} {ys = ys} {a = n} {found = ms} h k) = (allowed parameters room xs n h, all_allowed parameters room ys ms k)

lines_allowed : (parameters : List (List ℕ)) (room : ℕ) (ts : List Lexeme) (ns : List (List ℕ)) → IsGlobalLines parameters room ts ns → Allowed parameters ns
lines_allowed parameters room ts ns grammar.no_globals = tt
lines_allowed parameters room ts ns (grammar.global_line {ns = ms} {ms = others} {ts = us} {us = vs} h k) = both_allowed parameters ms others (all_allowed parameters room us ms h) (lines_allowed parameters room vs others k)

names_spelled : (parameters : List (List ℕ)) (room : ℕ) (n : List ℕ) (ns : List (List ℕ)) → Allowed parameters (n ∷ ns) → IsSeparated token.Comma (IsGlobal parameters) room (names_with token.Comma (n ∷ ns)) (n ∷ ns)
names_spelled parameters room n [] h = one (grammar.global n h.0)
names_spelled parameters room n (m ∷ ns) h = more (grammar.global n h.0) (names_spelled parameters room m ns h.1)

one_line : (parameters : List (List ℕ)) (room : ℕ) (ns : List (List ℕ)) → Allowed parameters ns → IsGlobalLines parameters room (global_line ns) ns
one_line parameters room [] h = grammar.no_globals
one_line parameters room (n ∷ ns) h =
    subst (λ ms. IsGlobalLines parameters room (global_line (n ∷ ns)) ms) (append-nil (n ∷ ns)) (grammar.global_line (names_spelled parameters room n ns h) grammar.no_globals)

pub globals_printed : (parameters : List (List ℕ)) (room : ℕ) (ts : List Lexeme) (ns : List (List ℕ)) → IsGlobalLines parameters room ts ns → IsGlobalLines parameters room (global_line ns) ns
globals_printed parameters room ts ns h = one_line parameters room ns (lines_allowed parameters room ts ns h)
