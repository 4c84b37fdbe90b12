-- A name without its last parts.
use Rattle.std.proofs.Common.{◌≡◌, ◌∙◌, refl, sym, ap, ℕ, zero, suc, ◌+◌, ◌-◌, ◌<◌, ◌≤◌, List, [], ◌∷◌, ◌++◌, false, length, take, Some, None, Ok, arith, nat_lt, length-append, inl, inr, IsTrue, length-take, le-ltb}
use Rattle.std.specs.List.{join_with_byte}
use Rattle.std.proofs.lemmas.List.Splits.{join_with_byte-slice_split}
use Rattle.std.proofs.Math.Seq.{take-append_seam, take-length}
use Rattle.spec_core.specs.Names.{parts, parent_of, joined}
use Rattle.spec_core.specs.Identifiers.{is_dotted}
use Rattle.spec_core.specs.Relative.{front_parts, resolved}
use Rattle.spec_core.proofs.Dots.{cut, parent-none, parent-cut, parts-none, parts-joined, some_parts}

take_less : (m n : ℕ) (all : List (List ℕ)) → m ≤ n → take m (take n all) ≡ take m all
take_less zero n all low = refl
take_less (suc m) zero all low = absurd (omega arith)
take_less (suc m) (suc n) [] low = refl
take_less (suc m) (suc n) (x ∷ all) low = ap (λ q. x ∷ q) (take_less m n all (omega arith))

-- all parts are the name
pub all_parts : (name : List ℕ) → front_parts (length (parts name)) name ≡ name
all_parts name = ap (join_with_byte 46) (take-length (parts name)) ∙ join_with_byte-slice_split 46 name

parent_parts : (name p : List ℕ) → Some p ≡ parent_of name → (1 < length (parts name)) × (parts p ≡ take (length (parts name) - 1) (parts name))
parent_parts name p e = elim (cut name) [
  | inl k ↦ let no : Some p ≡ None = e ∙ parent-none name k in cc
  | inr w ↦
      let both : Some p ≡ Some w.0 = e ∙ parent-cut name w.0 w.1 w.2 w.3 in
      let same : p ≡ w.0 = cc in
      let split : parts name ≡ parts p ++ w.1 ∷ [] = ap parts w.2 ∙ parts-joined w.0 w.1 ∙ ap (λ ps. parts w.0 ++ ps) (parts-none w.1 w.3) ∙ ap (λ q. parts q ++ w.1 ∷ []) (sym same) in
      let long : length (parts name) ≡ length (parts p) + 1 = ap length split ∙ length-append (parts p) (w.1 ∷ []) in
      let some = some_parts p in (
        omega arith,
        sym (ap (λ n. take n (parts name)) (let n : length (parts name) - 1 ≡ length (parts p) = omega arith in n) ∙ ap (take (length (parts p))) split ∙ take-append_seam (parts p) (w.1 ∷ [])),
      )
]

pub one_part : (name : List ℕ) → None ≡ parent_of name → length (parts name) ≡ 1
one_part name e = elim (cut name) [
  | inl k ↦ ap length (parts-none name k)
  | inr w ↦ let no : None ≡ Some w.0 = e ∙ parent-cut name w.0 w.1 w.2 w.3 in cc
]

left_over : (all : List (List ℕ)) (name : List ℕ) (k : ℕ) → parts name ≡ take (length all - k) all → length (parts name) ≡ length all - k
left_over all name k e = ap length e ∙ length-take (length all - k) all ∙ omega arith

-- one level up
pub level_up : (all : List (List ℕ)) (name p : List ℕ) (k : ℕ) → k < length all → parts name ≡ take (length all - k) all → Some p ≡ parent_of name
    → (k + 1 < length all) × (parts p ≡ take (length all - (k + 1)) all)
level_up all name p k low e up =
    let n = left_over all name k e in
    let less = parent_parts name p up in
    let enough : k + 1 < length all = omega (arith, less.0) in (
      enough,
      less.1 ∙ ap (λ m. take (m - 1) (parts name)) n ∙ ap (take (length all - k - 1)) e ∙ take_less (length all - k - 1) (length all - k) all (omega arith)
          ∙ ap (λ m. take m all) (omega arith),
    )

-- there is no more level
pub top_level : (all : List (List ℕ)) (name : List ℕ) (k : ℕ) → k < length all → parts name ≡ take (length all - k) all → None ≡ parent_of name → length all ≤ k + 1
top_level all name k low e up =
    let n = left_over all name k e in
    let one = one_part name up in
    omega arith

-- the name that is left
pub left_name : (whole name : List ℕ) (k : ℕ) → parts name ≡ take (length (parts whole) - k) (parts whole) → name ≡ front_parts (length (parts whole) - k) whole
left_name whole name k e = sym (join_with_byte-slice_split 46 name) ∙ ap (join_with_byte 46) e

-- at level 1
pub first_resolved : (base name : List ℕ) → IsTrue (is_dotted base) → resolved (Some base) 1 (Some name) ≡ Ok (joined base name)
first_resolved base name h =
    let some : nat_lt (length (parts base)) 1 ≡ false = le-ltb (length (parts base)) 1 (some_parts base) in
    let none : length (parts base) - 0 ≡ length (parts base) = omega arith in
    rw (h, some, none) (ap (λ t. Ok (joined t name)) (all_parts base))

pub whole_taken : (all : List (List ℕ)) → all ≡ take (length all - 0) all
whole_taken all = sym (ap (λ n. take n all) (let e : length all - 0 ≡ length all = omega arith in e) ∙ take-length all)
