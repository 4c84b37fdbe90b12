-- Tree paths and their texts.
use Rattle.std.proofs.Common.{◌≡◌, ◌∙◌, refl, sym, ap, subst, ℕ, zero, suc, ◌<◌, ◌≤◌, List, [], ◌∷◌, length, true, false, not, eqb, ◌&&◌, Some, None, Option, arith, inl, inr, codes, nat_eq, All}
use Rattle.std.proofs.lemmas.Bool.{cases_Bool, and_parts, cond-true, cond-false, false_from_ne_true, not-true}
use Rattle.std.proofs.lemmas.List.Splits.{slice_split_none, slice_split_at, join_with_byte-slice_split}
use Rattle.std.proofs.lemmas.Slice.Eq.{bytes_eq-Decides}
use Rattle.std.specs.Cmp.Lexicographic.{pointwise}
use Rattle.std.specs.List.{list_all}
use Rattle.std.specs.Option.{MatchOption}
use Rattle.std.specs.Str.{bytes_eq}
use Rattle.base_types.specs.Path.{Path, is_part, is_part_byte, joined, Spells}
use Rattle.trace_fields.specs.Values.{parts_of, tree_path_of}

-- a part has no slash
no_slash : (bytes : List ℕ) → list_all is_part_byte bytes ≡ true → All (λ b. eqb b 47 ≡ false) bytes
no_slash [] h k d low = absurd (omega arith)
no_slash (b ∷ bytes) h zero d low = not-true (eqb b 47) (and_parts (not (eqb b 47)) (not (eqb b 0)) (and_parts (is_part_byte b) (list_all is_part_byte bytes) h).0).0
no_slash (b ∷ bytes) h (suc k) d low = no_slash bytes (and_parts (is_part_byte b) (list_all is_part_byte bytes) h).1 k d (omega arith)

part_bytes : (part : List ℕ) → is_part part ≡ true → list_all is_part_byte part ≡ true
part_bytes part h =
    let a = and_parts (not (eqb (length part) 0)) (not (pointwise nat_eq part (codes ".")) && (not (pointwise nat_eq part (codes "..")) && list_all is_part_byte part)) h in
    let b = and_parts (not (pointwise nat_eq part (codes "."))) (not (pointwise nat_eq part (codes "..")) && list_all is_part_byte part) a.1 in
    (and_parts (not (pointwise nat_eq part (codes ".."))) (list_all is_part_byte part) b.1).1

pub parts_joined : (x : List ℕ) (xs : Path) → list_all is_part (x ∷ xs) ≡ true → parts_of (joined (x ∷ xs)) ≡ x ∷ xs
parts_joined x [] h = slice_split_none (λ b. eqb b 47) x (no_slash x (part_bytes x (and_parts (is_part x) true h).0))
parts_joined x (y ∷ ys) h =
    let both = and_parts (is_part x) (list_all is_part (y ∷ ys)) h in
    slice_split_at (λ b. eqb b 47) x 47 (joined (y ∷ ys)) (no_slash x (part_bytes x both.0)) refl ∙ ap (λ ps. x ∷ ps) (parts_joined y ys both.1)

pub path_again : (path : Path) → list_all is_part path ≡ true → tree_path_of (joined path) ≡ Some path
path_again [] h = refl
path_again ([] ∷ xs) h = cc
path_again ((c ∷ cs) ∷ []) h =
    let is = parts_joined (c ∷ cs) [] h in
    cond-true _ _ _ (ap (list_all is_part) is ∙ h) ∙ ap Some is
path_again ((c ∷ cs) ∷ y ∷ ys) h =
    let is = parts_joined (c ∷ cs) (y ∷ ys) h in
    cond-true _ _ _ (ap (list_all is_part) is ∙ h) ∙ ap Some is

none_spelled : (text : List ℕ) → ((p : Path) → ¬ (Spells text p)) → None ≡ tree_path_of text
none_spelled [] h = absurd (h [] (refl, inl refl))
none_spelled (b ∷ bs) h = sym (cond-false _ _ _ (false_from_ne_true _ (λ all. h (parts_of (b ∷ bs)) (all, inl (sym (join_with_byte-slice_split 47 (b ∷ bs)))))))

pub path_is : (text : List ℕ) (o : Option Path) → bytes_eq text (codes ".") ≡ false → MatchOption o ((p : Path) → ¬ (Spells text p)) (Spells text) → o ≡ tree_path_of text
path_is text None no_dot h = none_spelled text h
path_is text (Some path) no_dot h = elim h.1 [
  | inl e ↦ sym (ap tree_path_of e ∙ path_again path h.0)
  | inr e ↦ let dot : bytes_eq text (codes ".") ≡ true = (bytes_eq-Decides text (codes ".")).1 e.1 in cc
]

pub dot_is_none : (text : List ℕ) → bytes_eq text (codes ".") ≡ true → None ≡ tree_path_of text
dot_is_none text h = subst (λ t. None ≡ tree_path_of t) (sym ((bytes_eq-Decides text (codes ".")).0 h)) refl
