-- Names are their own normal forms, and such names with dots between are dotted names.
use Rattle.std.proofs.Common.{◌≡◌, ◌∙◌, refl, sym, ap, ℕ, zero, suc, ◌<◌, Bool, true, false, List, [], ◌∷◌, length, IsTrue, arith}
use Rattle.std.specs.Prelude.{◌==◌, ◌&&◌, not, nat_lt, slice_index_or}
use Rattle.std.specs.List.{list_all, AllByRecursion}
use Rattle.std.specs.Str.{chars, IsUtf8, NoCharPasses, NonePass, bytes_eq}
use Rattle.std.specs.Cmp.Lexicographic.{nat_list_eq_equiv}
use Rattle.std.proofs.lemmas.Bool.{and_parts, and_from}
use Rattle.std.proofs.lemmas.Bool.Decides.{nat_tests}
use Rattle.std.proofs.lemmas.Str.{encodes-chars, chars_from_encodes, NoCharPasses-byte}
use Rattle.unicode_ident.proofs.Computing.{unicode_ident}
use Rattle.unicode_normalization.specs.Forms.{nfkc, is_in_form, Nfkc}
use Rattle.unicode_normalization.proofs.FormsLemmas.{normalize_idem}
use Rattle.spec_core.specs.Identifiers.{starts_identifier, continues_identifier, is_identifier, is_keyword, is_name, is_dotted}
use Rattle.spec_core.specs.Names.{NoDot}
use Rattle.spec_core.proofs.Dots.{dotted-none, dotted-both}
use Rattle.source_print.proofs.NameTexts.{IsName}
use Rattle.source_laws.specs.Laws.{behind_dots}

-- ---- normal forms

own_form : (n : List ℕ) → IsName n → IsUtf8 n → is_in_form Nfkc (chars n) ≡ true
own_form n is u =
    let characters : nfkc is.source ≡ chars n = chars_from_encodes (nfkc is.source) n u (sym is.normal) in
    let stays : nfkc (chars n) ≡ chars n = ap nfkc (sym characters) ∙ normalize_idem Nfkc is.source ∙ characters in
    ap (λ cs. bytes_eq cs (chars n)) stays ∙ nat_list_eq_equiv.refl (chars n)

pub good_name : (n : List ℕ) → IsName n → IsUtf8 n → IsTrue (is_name n)
good_name n is u = and_from (is_identifier (chars n)) _ is.ident (and_from (is_in_form Nfkc (chars n)) _ (own_form n is u) (ap not is.free))

-- ---- no dot stands in a name

starts_with_none : starts_identifier 46 ≡ false
unfolding unicode_ident
starts_with_none = refl

holds_none : continues_identifier 46 ≡ false
unfolding unicode_ident
holds_none = refl

apart_by : (p : ℕ → Bool) (c : ℕ) → p 46 ≡ false → p c ≡ true → (b : Bool) → (c == 46) ≡ b → (c == 46) ≡ false
apart_by p c h k true e = let same : c ≡ 46 = grind (arith, nat_tests, e) in let off : p c ≡ false = ap p same ∙ h in absurd cc
apart_by p c h k false e = e

apart : (p : ℕ → Bool) (c : ℕ) → p 46 ≡ false → p c ≡ true → (c == 46) ≡ false
apart p c h k = apart_by p c h k (c == 46) refl

abbrev is_dot : ℕ → Bool
is_dot c = c == 46

continues_without : (cs : List ℕ) → list_all continues_identifier cs ≡ true → NonePass is_dot cs
continues_without [] h = tt
continues_without (c ∷ cs) h =
    let parts = and_parts (continues_identifier c) (list_all continues_identifier cs) h in
    (apart continues_identifier c holds_none parts.0, continues_without cs parts.1)

without_dot : (cs : List ℕ) → is_identifier cs ≡ true → NonePass is_dot cs
without_dot [] h = absurd cc
without_dot (c ∷ cs) h =
    let parts = and_parts (starts_identifier c) (list_all continues_identifier cs) h in
    (apart starts_identifier c starts_with_none parts.0, continues_without cs parts.1)

same_default : (xs : List ℕ) (k d e : ℕ) → k < length xs → slice_index_or xs k d ≡ slice_index_or xs k e
same_default [] k d e h = absurd (omega arith)
same_default (x ∷ xs) zero d e h = refl
same_default (x ∷ xs) (suc k) d e h = same_default xs k d e (omega arith)

byte_by : (b : ℕ) → (b < 128 → is_dot b ≡ false) → (low : Bool) → nat_lt b 128 ≡ low → is_dot b ≡ false
byte_by b h true e = h (grind (arith, nat_tests, e))
byte_by b h false e = grind (arith, nat_tests, e)

no_dot : (n : List ℕ) → is_identifier (chars n) ≡ true → IsUtf8 n → NoDot n
no_dot n h u k d within =
    let passes : NoCharPasses is_dot n = (chars n, encodes-chars n u, without_dot (chars n) h) in
    ap is_dot (same_default n k d 0 within) ∙ byte_by (slice_index_or n k 0) (λ low. NoCharPasses-byte is_dot n k passes within low) (nat_lt (slice_index_or n k 0) 128) refl

-- ---- dotted names

-- a name, where its text is UTF-8
abbrev pub IsGoodName : List ℕ → Type 0
IsGoodName n = IsUtf8 n → IsTrue (is_name n)

one_dotted : (n : List ℕ) → IsGoodName n → IsUtf8 n → IsTrue (is_dotted n)
one_dotted n h u =
    let parts = and_parts (is_identifier (chars n)) (is_in_form Nfkc (chars n) && not (is_keyword n)) (h u) in
    dotted-none n (no_dot n parts.0 u) ∙ h u

pub names_dotted : (n : List ℕ) (ns : List (List ℕ)) → AllByRecursion IsGoodName (n ∷ ns) → AllByRecursion IsUtf8 (n ∷ ns) → IsTrue (is_dotted (behind_dots n ns))
names_dotted n [] h u = one_dotted n h.0 u.0
names_dotted n (m ∷ ns) h u = dotted-both n (behind_dots m ns) (one_dotted n h.0 u.0) (names_dotted m ns h.1 u.1)
