-- No byte of a dotted name or of an identifier ends a field.
use Rattle.std.proofs.Common.{◌≡◌, ◌∙◌, refl, sym, ap, subst, ℕ, ◌+◌, ◌<◌, ◌≤◌, List, [], ◌∷◌, ◌++◌, Bool, true, false, ◌&&◌, ◌||◌, ◌==◌, length, length-append, get_or, take, drop, arith, lit<, append-nil, append_assoc, encode_utf8_all, chars, ◌-◌, eqb}
use Rattle.std.proofs.lemmas.Bool.{and_parts, and_from, cases_Bool}
use Rattle.std.proofs.lemmas.Grind.{get_or_default_zero}
use Rattle.std.proofs.lemmas.List.{take_at, drop_at, get_or-append_right}
use Rattle.std.proofs.lemmas.List.Folds.{list_all-append}
use Rattle.std.proofs.lemmas.List.Splits.{join_with_byte-slice_split}
use Rattle.std.proofs.lemmas.List.Sums.{list_all-from_AllPass}
use Rattle.std.proofs.lemmas.Str.{inside_one, encodes-chars, IsUtf8-take, IsUtf8-drop, IsCharBoundary-before_ascii, IsCharBoundary-after_ascii}
use Rattle.std.proofs.Math.Utf8.{encode}
use Rattle.std.specs.List.{list_all, slice_split, join_with_byte}
use Rattle.std.specs.Str.{IsUtf8}
use Rattle.unicode_ident.specs.Ident.{is_xid_start, is_xid_continue}
use Rattle.unicode_ident.proofs.IdentLemmas.{is_xid_continue-ascii, is_xid_start-is_xid_continue}
use Rattle.spec_core.specs.Names.{parts}
use Rattle.spec_core.specs.Identifiers.{starts_identifier, continues_identifier, is_identifier, is_name, is_dotted}
use Rattle.trace_fields.proofs.Closed.{is_ordinary}
use Rattle.trace_read.proofs.Bytes.{ordinary_from, ordinary_both}

line_stops : continues_identifier 10 ≡ false
line_stops = ap (λ b. b || false) (is_xid_continue-ascii 10 (lit< tt))

blank_stops : continues_identifier 32 ≡ false
blank_stops = ap (λ b. b || false) (is_xid_continue-ascii 32 (lit< tt))

comma_stops : continues_identifier 44 ≡ false
comma_stops = ap (λ b. b || false) (is_xid_continue-ascii 44 (lit< tt))

quote_stops : continues_identifier 34 ≡ false
quote_stops = ap (λ b. b || false) (is_xid_continue-ascii 34 (lit< tt))

opening_stops : continues_identifier 91 ≡ false
opening_stops = ap (λ b. b || false) (is_xid_continue-ascii 91 (lit< tt))

parenthesis_stops : continues_identifier 40 ≡ false
parenthesis_stops = ap (λ b. b || false) (is_xid_continue-ascii 40 (lit< tt))

end_stops : continues_identifier 93 ≡ false
end_stops = ap (λ b. b || false) (is_xid_continue-ascii 93 (lit< tt))

last_stops : continues_identifier 41 ≡ false
last_stops = ap (λ b. b || false) (is_xid_continue-ascii 41 (lit< tt))

never : (c k : ℕ) → continues_identifier c ≡ true → continues_identifier k ≡ false → c ≡ k → ⊥
never c k good bad same = let bad_c : continues_identifier c ≡ false = ap continues_identifier same ∙ bad in cc

is_char : (c k b : ℕ) → k < length (encode c) → b < 128 → get_or (encode c) k 0 ≡ b → c ≡ b
is_char c k b low small e =
    let below : get_or (encode c) k 0 < 128 = subst (λ x. x < 128) (sym e) small in
    inside_one c [] (encode c) k (sym (append-nil (encode c))) low below ∙ e

ordinary_byte : (c k : ℕ) → continues_identifier c ≡ true → k < length (encode c) → is_ordinary (get_or (encode c) k 0) ≡ true
ordinary_byte c k good low =
    ordinary_from (get_or (encode c) k 0)
    (λ e. never c 10 good line_stops (is_char c k 10 low (lit< tt) e))
    (λ e. never c 32 good blank_stops (is_char c k 32 low (lit< tt) e))
    (λ e. never c 44 good comma_stops (is_char c k 44 low (lit< tt) e))
    (λ e. never c 34 good quote_stops (is_char c k 34 low (lit< tt) e))
    (λ e. never c 91 good opening_stops (is_char c k 91 low (lit< tt) e))
    (λ e. never c 40 good parenthesis_stops (is_char c k 40 low (lit< tt) e))
    (λ e. never c 93 good end_stops (is_char c k 93 low (lit< tt) e))
    (λ e. never c 41 good last_stops (is_char c k 41 low (lit< tt) e))

ordinary_char : (c : ℕ) → continues_identifier c ≡ true → list_all is_ordinary (encode c) ≡ true
ordinary_char c good = list_all-from_AllPass is_ordinary (encode c) (λ k d low. subst (λ b. is_ordinary b ≡ true) (sym (get_or_default_zero (encode c) k d low)) (ordinary_byte c k good low))

ordinary_chars : (cs : List ℕ) → list_all continues_identifier cs ≡ true → list_all is_ordinary (encode_utf8_all cs) ≡ true
ordinary_chars [] e = refl
ordinary_chars (c ∷ cs) e =
    let both = and_parts (continues_identifier c) (list_all continues_identifier cs) e in
    ordinary_both (encode c) (encode_utf8_all cs) (ordinary_char c both.0) (ordinary_chars cs both.1)

or_true : (b : Bool) → b || true ≡ true
or_true true = refl
or_true false = refl

starts_continues : (a b c : Bool) → (a ≡ true → b ≡ true) → a || c ≡ true → b || c ≡ true
starts_continues true b c h e = ap (λ x. x || c) (h refl)
starts_continues false b true h e = or_true b
starts_continues false b false h e = cc

all_continue : (cs : List ℕ) → is_identifier cs ≡ true → list_all continues_identifier cs ≡ true
all_continue [] e = cc
all_continue (c ∷ cs) e =
    let both = and_parts (starts_identifier c) (list_all continues_identifier cs) e in
    and_from (continues_identifier c) (list_all continues_identifier cs) (starts_continues (is_xid_start c) (is_xid_continue c) (c == 95) (is_xid_start-is_xid_continue c) both.0) both.1

pub identifier_ordinary : (t : List ℕ) → IsUtf8 t → is_identifier (chars t) ≡ true → list_all is_ordinary t ≡ true
identifier_ordinary t u e = subst (λ x. list_all is_ordinary x ≡ true) (encodes-chars t u) (ordinary_chars (chars t) (all_continue (chars t) e))

name_ordinary : (t : List ℕ) → IsUtf8 t → is_name t ≡ true → list_all is_ordinary t ≡ true
name_ordinary t u e = identifier_ordinary t u (and_parts (is_identifier (chars t)) _ e).0

-- before and behind a dot
before_dot : (x rest : List ℕ) → IsUtf8 (x ++ 46 ∷ rest) → IsUtf8 x
before_dot x rest u =
    let none : length x - length x ≡ 0 = omega arith in
    let at : get_or (x ++ 46 ∷ rest) (length x) 0 ≡ 46 = get_or-append_right x (46 ∷ rest) (length x) (length x) 0 refl (omega arith) ∙ ap (λ n. get_or (46 ∷ rest) n 0) none in
    let inside : length x < length (x ++ 46 ∷ rest) = omega (arith, length-append x (46 ∷ rest)) in
    let small : get_or (x ++ 46 ∷ rest) (length x) 0 < 128 = omega (arith, at) in
    subst IsUtf8 (take_at x (46 ∷ rest) (length x) refl) (IsUtf8-take (x ++ 46 ∷ rest) (length x) u (IsCharBoundary-before_ascii (x ++ 46 ∷ rest) (length x) inside small))

behind_dot : (x rest : List ℕ) → IsUtf8 (x ++ 46 ∷ rest) → IsUtf8 rest
behind_dot x rest u =
    let none : length x - length x ≡ 0 = omega arith in
    let at : get_or (x ++ 46 ∷ rest) (length x) 0 ≡ 46 = get_or-append_right x (46 ∷ rest) (length x) (length x) 0 refl (omega arith) ∙ ap (λ n. get_or (46 ∷ rest) n 0) none in
    let inside : length x < length (x ++ 46 ∷ rest) = omega (arith, length-append x (46 ∷ rest)) in
    let small : get_or (x ++ 46 ∷ rest) (length x) 0 < 128 = omega (arith, at) in
    let regrouped : x ++ 46 ∷ rest ≡ (x ++ 46 ∷ []) ++ rest = sym (append_assoc x (46 ∷ []) rest) in
    let len : length (x ++ 46 ∷ []) ≡ length x + 1 = length-append x (46 ∷ []) in
    let cut : drop (length x + 1) (x ++ 46 ∷ rest) ≡ rest = ap (drop (length x + 1)) regrouped ∙ drop_at (x ++ 46 ∷ []) rest (length x + 1) len in
    subst IsUtf8 cut (IsUtf8-drop (x ++ 46 ∷ rest) (length x + 1) u (IsCharBoundary-after_ascii (x ++ 46 ∷ rest) (length x) u inside small))

names_ordinary : (ps : List (List ℕ)) → IsUtf8 (join_with_byte 46 ps) → list_all is_name ps ≡ true → list_all is_ordinary (join_with_byte 46 ps) ≡ true
names_ordinary [] u e = refl
names_ordinary (x ∷ []) u e = name_ordinary x u (and_parts (is_name x) true e).0
names_ordinary (x ∷ y ∷ ps) u e =
    let both = and_parts (is_name x) (list_all is_name (y ∷ ps)) e in
    let rest = join_with_byte 46 (y ∷ ps) in
    ordinary_both x (46 ∷ rest) (name_ordinary x (before_dot x rest u) both.0) (names_ordinary (y ∷ ps) (behind_dot x rest u) both.1)

pub dotted_ordinary : (t : List ℕ) → IsUtf8 t → is_dotted t ≡ true → list_all is_ordinary t ≡ true
unfolding is_dotted
dotted_ordinary t u e =
    let whole = join_with_byte-slice_split 46 t in
    subst (λ x. list_all is_ordinary x ≡ true) whole (names_ordinary (parts t) (subst IsUtf8 (sym whole) u) e)
