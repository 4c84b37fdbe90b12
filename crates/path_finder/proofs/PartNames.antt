-- The last part of a dotted name is a part of a tree path, and so it is with `.py` behind it.
use Rattle.std.proofs.Common.{◌≡◌, ◌∙◌, refl, sym, ap, subst, ℕ, zero, suc, ◌<◌, List, [], ◌∷◌, ◌++◌, Bool, true, false, not, ◌&&◌, ◌||◌, ◌==◌, IsTrue, length, get_or, codes, nat_eq, arith, lit<, inl, inr, ◌⊎◌, Option, None, Some, IsUtf8, encode_utf8_all, chars, eqb-true, append-nil, length-append, ◌+◌}
use Rattle.std.proofs.lemmas.Grind.{get_or_default_zero}
use Rattle.std.specs.Cmp.Lexicographic.{pointwise, bytes_decides}
use Rattle.std.specs.List.{list_all, AllPass}
use Rattle.std.specs.Char.{is_ascii_alphanumeric, is_ascii_alphabetic}
use Rattle.std.proofs.Math.Utf8.{encode}
use Rattle.std.proofs.lemmas.Str.{inside_one, encodes-chars, chars-nil}
use Rattle.std.proofs.lemmas.List.Folds.{list_all-append}
use Rattle.std.proofs.lemmas.List.Sums.{list_all-from_AllPass}
use Rattle.unicode_ident.specs.Ident.{is_xid_start, is_xid_continue}
use Rattle.unicode_ident.proofs.IdentLemmas.{is_xid_continue-ascii, is_xid_start-is_xid_continue}
use Rattle.base_types.specs.Path.{is_part, is_part_byte}
use Rattle.spec_core.specs.Names.{parent_of, NoDot}
use Rattle.spec_core.specs.Identifiers.{starts_identifier, continues_identifier, is_identifier, is_name, is_dotted}
use Rattle.spec_core.proofs.Dots.{cut, parent-cut, dotted-none}
use Rattle.path_finder.specs.Find.{with_suffix}

left : (a b : Bool) → a && b ≡ true → a ≡ true
left true b e = refl
left false b e = e

right : (a b : Bool) → a && b ≡ true → b ≡ true
right true b e = e
right false b e = cc

both : (a b : Bool) → a ≡ true → b ≡ true → a && b ≡ true
both true b p q = q
both false b p q = p

-- no slash, no dot and no zero byte stands in an identifier
slash_stops : continues_identifier 47 ≡ false
slash_stops = ap (λ b. b || false) (is_xid_continue-ascii 47 (lit< tt))

dot_stops : continues_identifier 46 ≡ false
dot_stops = ap (λ b. b || false) (is_xid_continue-ascii 46 (lit< tt))

zero_stops : continues_identifier 0 ≡ false
zero_stops = ap (λ b. b || false) (is_xid_continue-ascii 0 (lit< tt))

or_true : (b : Bool) → b || true ≡ true
or_true true = refl
or_true false = refl

starts_continues : (a b c : Bool) → (a ≡ true → b ≡ true) → a || c ≡ true → b || c ≡ true
starts_continues true b c h e = ap (λ x. x || c) (h refl)
starts_continues false b true h e = or_true b
starts_continues false b false h e = cc

abbrev is_fit : ℕ → Bool
is_fit b = is_part_byte b && not (b == 46)

fit_by : (b : ℕ) (s z d : Bool) → (b == 47) ≡ s → (b == 0) ≡ z → (b == 46) ≡ d → (s ≡ true → ⊥) → (z ≡ true → ⊥) → (d ≡ true → ⊥) → is_fit b ≡ true
fit_by b true z d e f g hs hz hd = absurd (hs refl)
fit_by b false true d e f g hs hz hd = absurd (hz refl)
fit_by b false false true e f g hs hz hd = absurd (hd refl)
fit_by b false false false e f g hs hz hd = rw (e, f, g) refl

never : (c k : ℕ) → continues_identifier c ≡ true → continues_identifier k ≡ false → c ≡ k → ⊥
never c k good bad same = let bad_c : continues_identifier c ≡ false = ap continues_identifier same ∙ bad in cc

-- a byte of such a character is no slash, no dot and no zero byte
is_char : (c k b : ℕ) → k < length (encode c) → b < 128 → get_or (encode c) k 0 ≡ b → c ≡ b
is_char c k b low small e =
    let below : get_or (encode c) k 0 < 128 = subst (λ x. x < 128) (sym e) small in
    inside_one c [] (encode c) k (sym (append-nil (encode c))) low below ∙ e

fit_byte : (c k : ℕ) → continues_identifier c ≡ true → k < length (encode c) → is_fit (get_or (encode c) k 0) ≡ true
fit_byte c k good low =
    fit_by (get_or (encode c) k 0) _ _ _ refl refl refl
    (λ e. never c 47 good slash_stops (is_char c k 47 low (lit< tt) (eqb-true (get_or (encode c) k 0) 47 e)))
    (λ e. never c 0 good zero_stops (is_char c k 0 low (lit< tt) (eqb-true (get_or (encode c) k 0) 0 e)))
    (λ e. never c 46 good dot_stops (is_char c k 46 low (lit< tt) (eqb-true (get_or (encode c) k 0) 46 e)))

fit_char : (c : ℕ) → continues_identifier c ≡ true → list_all is_fit (encode c) ≡ true
fit_char c good = list_all-from_AllPass is_fit (encode c) (λ k d low. subst (λ b. is_fit b ≡ true) (sym (get_or_default_zero (encode c) k d low)) (fit_byte c k good low))

fit_all : (cs : List ℕ) → list_all continues_identifier cs ≡ true → list_all is_fit (encode_utf8_all cs) ≡ true
fit_all [] e = refl
fit_all (c ∷ cs) e =
    list_all-append is_fit (encode c) (encode_utf8_all cs)
    ∙ both _ _ (fit_char c (left _ _ e)) (fit_all cs (right _ _ e))

all_continue : (cs : List ℕ) → is_identifier cs ≡ true → list_all continues_identifier cs ≡ true
all_continue [] e = cc
all_continue (c ∷ cs) e =
    both _ _ (starts_continues (is_xid_start c) (is_xid_continue c) (c == 95) (is_xid_start-is_xid_continue c) (left _ _ e)) (right (starts_identifier c) _ e)

-- the bytes of an identifier
fit_name : (t : List ℕ) → IsUtf8 t → is_name t ≡ true → list_all is_fit t ≡ true
fit_name t u e = subst (λ x. list_all is_fit x ≡ true) (encodes-chars t u) (fit_all (chars t) (all_continue (chars t) (left _ _ e)))

some_char : (cs : List ℕ) → is_identifier cs ≡ true → cs ≡ [] → ⊥
some_char [] e n = let bad : ◌≡◌ {A = Bool} false true = e in cc
some_char (c ∷ cs) e n = cc

some_byte : (t : List ℕ) → IsUtf8 t → is_name t ≡ true → t ≡ [] → ⊥
some_byte t u e n = some_char (chars t) (left _ _ e) (ap chars n ∙ chars-nil)

part_bytes : (t : List ℕ) → list_all is_fit t ≡ true → list_all is_part_byte t ≡ true
part_bytes [] e = refl
part_bytes (b ∷ bs) e = both _ _ (left (is_part_byte b) _ (left (is_fit b) _ e)) (part_bytes bs (right (is_fit b) _ e))

abbrev is_word : List ℕ → List ℕ → Bool
is_word t w = pointwise nat_eq t w

not_word : (t w : List ℕ) (b : Bool) → is_word t w ≡ b → list_all is_fit t ≡ true → list_all is_fit w ≡ false → not (is_word t w) ≡ true
not_word t w true e good bad =
    let same : t ≡ w = (bytes_decides t w).0 e in
    let wrong : list_all is_fit t ≡ false = ap (list_all is_fit) same ∙ bad in
    cc
not_word t w false e good bad = ap not e

nonzero : (n : ℕ) (b : Bool) → (suc n == 0) ≡ b → not b ≡ true
nonzero n true e = let bad : suc n ≡ 0 = eqb-true (suc n) 0 e in absurd (omega arith)
nonzero n false e = refl

long : (t : List ℕ) → (t ≡ [] → ⊥) → not (length t == 0) ≡ true
long [] h = absurd (h refl)
long (b ∷ bs) h = nonzero (length bs) _ refl

fit_part : (t : List ℕ) → (t ≡ [] → ⊥) → list_all is_fit t ≡ true → is_part t ≡ true
fit_part t full good =
    both _ _ (long t full) (both _ _ (not_word t (codes ".") _ refl good refl) (both _ _ (not_word t (codes "..") _ refl good refl) (part_bytes t good)))

-- with `.py` behind it
suffix_bytes : (t : List ℕ) → list_all is_part_byte t ≡ true → list_all is_part_byte (with_suffix t) ≡ true
suffix_bytes t e = list_all-append is_part_byte t (codes ".py") ∙ both _ _ e refl

longer : (t w : List ℕ) → (t ≡ [] → ⊥) → length w < 4 → is_word (with_suffix t) w ≡ true → ⊥
longer [] w full short e = full refl
longer (b ∷ bs) w full short e =
    let same : length (with_suffix (b ∷ bs)) ≡ length w = ap length ((bytes_decides (with_suffix (b ∷ bs)) w).0 e) in
    let count : length (with_suffix (b ∷ bs)) ≡ suc (length bs + 3) = ap suc (length-append bs (codes ".py")) in
    omega arith

not_true : (b : Bool) → (b ≡ true → ⊥) → not b ≡ true
not_true true h = absurd (h refl)
not_true false h = refl

long_suffix : (t : List ℕ) → not (length (with_suffix t) == 0) ≡ true
long_suffix [] = refl
long_suffix (b ∷ bs) = nonzero (length (bs ++ codes ".py")) _ refl

suffix_part : (t : List ℕ) → (t ≡ [] → ⊥) → list_all is_part_byte t ≡ true → is_part (with_suffix t) ≡ true
suffix_part t full good =
    both _ _ (long_suffix t) (both _ _ (not_true _ (longer t (codes ".") full (lit< tt))) (both _ _ (not_true _ (longer t (codes "..") full (lit< tt))) (suffix_bytes t good)))

-- a dotted name of one part is a name
one_name : (t : List ℕ) → IsTrue (is_dotted t) → parent_of t ≡ None → is_name t ≡ true
one_name t dotted one = elim (cut t) [
  | inl h ↦ sym (dotted-none t h) ∙ dotted
  | inr w ↦ let some : ◌≡◌ {A = Option (List ℕ)} None (Some w.0) = sym one ∙ parent-cut t w.0 w.1 w.2 w.3 in cc
]

pub name_is_part : (t : List ℕ) → IsUtf8 t → IsTrue (is_dotted t) → parent_of t ≡ None → IsTrue (is_part t)
name_is_part t u dotted one = let name : is_name t ≡ true = one_name t dotted one in fit_part t (some_byte t u name) (fit_name t u name)

pub name_file_is_part : (t : List ℕ) → IsUtf8 t → IsTrue (is_dotted t) → parent_of t ≡ None → IsTrue (is_part (with_suffix t))
name_file_is_part t u dotted one = let name : is_name t ≡ true = one_name t dotted one in suffix_part t (some_byte t u name) (part_bytes t (fit_name t u name))
