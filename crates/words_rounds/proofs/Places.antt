-- Tree paths and their texts.
use Rattle.std.proofs.Common.{◌≡◌, ◌∙◌, refl, sym, ap, subst, ℕ, zero, suc, ◌≤◌, List, [], ◌∷◌, length, true, false, not, eqb, ◌&&◌, Some, None, Option, arith, inl, inr, codes, nat_eq}
use Rattle.std.proofs.lemmas.Bool.{cases_Bool, and_from, and_parts, and_left, and_right, cond-true, cond-false, false_from_ne_true, not-true}
use Rattle.std.proofs.lemmas.List.Splits.{slice_split_none, slice_split_at, join_with_byte-slice_split}
use Rattle.std.specs.Cmp.Lexicographic.{pointwise}
use Rattle.std.specs.List.{list_all, All}
use Rattle.std.specs.Option.{MatchOption, option_and_then, is_some}
use Rattle.std.specs.Str.{IsUtf8, is_utf8}
use Rattle.std.proofs.lemmas.Str.{IsUtf8-from_is_utf8, is_utf8-from_IsUtf8}
use Rattle.base_types.specs.Path.{Path, is_part, is_part_byte, joined, Spells}
use Rattle.words_rounds.specs.Lines.{parts, has_no_blank, named_in, path_in, with_parts}

-- a part has no slash
no_slash : (bytes : List ℕ) → list_all is_part_byte bytes ≡ true → All (λ b. eqb b 47 ≡ false) bytes
no_slash [] h k d low = absurd (omega arith)
no_slash (b ∷ bytes) h zero d low = not-true (eqb b 47) (and_parts (not (eqb b 47)) (not (eqb b 0)) (and_parts (is_part_byte b) (list_all is_part_byte bytes) h).0).0
no_slash (b ∷ bytes) h (suc k) d low = no_slash bytes (and_parts (is_part_byte b) (list_all is_part_byte bytes) h).1 k d (omega arith)

part_bytes : (part : List ℕ) → is_part part ≡ true → list_all is_part_byte part ≡ true
part_bytes part h =
    let a = and_parts (not (eqb (length part) 0)) (not (pointwise nat_eq part (codes ".")) && (not (pointwise nat_eq part (codes "..")) && list_all is_part_byte part)) h in
    let b = and_parts (not (pointwise nat_eq part (codes "."))) (not (pointwise nat_eq part (codes "..")) && list_all is_part_byte part) a.1 in
    (and_parts (not (pointwise nat_eq part (codes ".."))) (list_all is_part_byte part) b.1).1

pub parts_joined : (path : Path) → list_all is_part path ≡ true → 1 ≤ length path → parts (joined path) ≡ path
parts_joined [] h some = absurd (omega arith)
parts_joined (x ∷ []) h some = slice_split_none (λ b. eqb b 47) x (no_slash x (part_bytes x (and_parts (is_part x) true h).0))
parts_joined (x ∷ y ∷ path) h some =
    let both = and_parts (is_part x) (list_all is_part (y ∷ path)) h in
    slice_split_at (λ b. eqb b 47) x 47 (joined (y ∷ path)) (no_slash x (part_bytes x both.0)) refl ∙ ap (λ ps. x ∷ ps) (parts_joined (y ∷ path) both.1 (omega arith))

pub blank : (text : List ℕ) → has_no_blank text ≡ false → None ≡ path_in text
unfolding path_in
blank text h = sym (cond-false _ _ _ (and_right (is_utf8 text) _ h))

pub no_text : (text : List ℕ) → ¬ (IsUtf8 text) → None ≡ path_in text
unfolding path_in
no_text text h = sym (cond-false _ _ _ (and_left _ (has_no_blank text) (false_from_ne_true (is_utf8 text) (λ utf8. h (IsUtf8-from_is_utf8 text utf8)))))

pub named : (text : List ℕ) → has_no_blank text ≡ true → IsUtf8 text → named_in text ≡ path_in text
unfolding path_in
named text plain utf8 = sym (cond-true _ _ _ (and_from _ _ (is_utf8-from_IsUtf8 text utf8) plain))

found : (text : List ℕ) → list_all is_part (parts text) ≡ true → Some (parts text) ≡ named_in text
found text h = sym (cond-true _ _ _ h)

refused : (text : List ℕ) → list_all is_part (parts text) ≡ false → None ≡ named_in text
refused text h = sym (cond-false _ _ _ h)

pub read_is : (text : List ℕ) (o : Option Path) → MatchOption o ((p : Path) → ¬ (Spells text p)) (Spells text) → option_and_then with_parts o ≡ named_in text
read_is text None h = refused text (false_from_ne_true _ (λ all. h (parts text) (all, inl (sym (join_with_byte-slice_split 47 text)))))
read_is text (Some []) h = elim h.1 [
  | inl e ↦ subst (λ t. None ≡ named_in t) (sym e) (refused [] refl)
  | inr e ↦ subst (λ t. None ≡ named_in t) (sym e.1) (refused (codes ".") refl)
]
read_is text (Some (x ∷ path)) h = elim h.1 [
  | inl e ↦
      let is : parts text ≡ x ∷ path = ap parts e ∙ parts_joined (x ∷ path) h.0 (omega arith) in
      ap Some (sym is) ∙ found text (ap (list_all is_part) is ∙ h.0)
  | inr e ↦ let bad = e.0 in cc
]

pub has_parts : (path : Path) → ¬ (path ≡ []) → Some path ≡ with_parts path
has_parts [] h = absurd (h refl)
has_parts (part ∷ path) h = refl

pub some_is_text : (text : List ℕ) → is_some (path_in text) ≡ true → IsUtf8 text
unfolding path_in
some_is_text text h = elim (cases_Bool (is_utf8 text && has_no_blank text)) [
  | inl both ↦ IsUtf8-from_is_utf8 text (and_parts (is_utf8 text) (has_no_blank text) both).0
  | inr not_both ↦ let bad : false ≡ true = sym (ap is_some (cond-false (is_utf8 text && has_no_blank text) (named_in text) None not_both)) ∙ h in cc
]
