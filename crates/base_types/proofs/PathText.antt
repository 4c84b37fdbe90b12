-- Texts and the paths that they spell.
use Rattle.std.proofs.Common.{◌≡◌, ◌∙◌, refl, sym, ap, subst, ℕ, ◌<◌, List, [], ◌∷◌, ◌++◌, Bool, true, false, ◌&&◌, not, length, eqb, inl, inr, All, codes, get_or, take, ◌+◌, append_assoc, length-take, map, zero, suc, arith, ◌==◌, nat_eq}
use Rattle.std.specs.Cmp.Lexicographic.{pointwise}
use Rattle.std.specs.List.{list_all, slice_split}
use Rattle.std.proofs.lemmas.List.{take_more}
use Rattle.std.proofs.lemmas.List.Splits.{slice_split_none, slice_split_at, join_with_byte-slice_split}
use Rattle.std.proofs.lemmas.List.Sums.{AllPass-from_list_all}
use Rattle.base_types.specs.Path.{Path, is_part, is_part_byte, IsPath, joined, Spells}

abbrev slash : ℕ → Bool
slash b = eqb b 47

left : (a b : Bool) → a && b ≡ true → a ≡ true
left true b e = refl
left false b e = e

right : (a b : Bool) → a && b ≡ true → b ≡ true
right true b e = e
right false b e = cc

both : (a b : Bool) → a ≡ true → b ≡ true → a && b ≡ true
both true b p q = q
both false b p q = p

negated : (b : Bool) → not b ≡ true → b ≡ false
negated true e = sym e
negated false e = refl

and_false : (b : Bool) → b && false ≡ false
and_false true = refl
and_false false = refl

no_slash_in : (bytes : List ℕ) → list_all is_part_byte bytes ≡ true → list_all (λ b. not (slash b)) bytes ≡ true
no_slash_in [] e = refl
no_slash_in (b ∷ bs) e =
    both (not (slash b)) _ (left (not (slash b)) (not (eqb b 0)) (left (is_part_byte b) _ e)) (no_slash_in bs (right (is_part_byte b) _ e))

no_slash : (name : List ℕ) → is_part name ≡ true → All (λ b. slash b ≡ false) name
no_slash name e =
    let bytes : list_all is_part_byte name ≡ true = right (not (pointwise nat_eq name (codes ".."))) _ (right (not (pointwise nat_eq name (codes "."))) _ (right (not (length name == 0)) _ e)) in
    let pass = AllPass-from_list_all (λ b. not (slash b)) name (no_slash_in name bytes) in
    λ k d h. negated _ (pass k d h)

-- one element that fails
pub list_all-fails : {X Y : Type 0} (f : X → Y) (p : Y → Bool) (xs : List X) (k : ℕ) (d : X) → k < length xs → p (f (get_or xs k d)) ≡ false → list_all p (map f xs) ≡ false
list_all-fails f p [] k d h e = absurd (omega arith)
list_all-fails f p (x ∷ xs) zero d h e = ap (λ b. b && list_all p (map f xs)) e
list_all-fails f p (x ∷ xs) (suc k) d h e =
    let below : k < length xs = omega arith in
    ap (λ b. p (f x) && b) (list_all-fails f p xs k d below e) ∙ and_false (p (f x))

-- to cut at the slashes undoes joining
pub split-joined : (x : List ℕ) (ps : Path) → IsPath (x ∷ ps) → slice_split slash (joined (x ∷ ps)) ≡ x ∷ ps
split-joined x [] h = slice_split_none slash x (no_slash x (left (is_part x) _ h))
split-joined x (y ∷ ps) h =
    slice_split_at slash x 47 (joined (y ∷ ps)) (no_slash x (left (is_part x) _ h)) refl ∙ ap (λ q. x ∷ q) (split-joined y ps (right (is_part x) _ h))

-- where a piece between slashes is no part, nothing is spelled
pub not_spelled : (text : List ℕ) → (text ≡ [] → ⊥) → (text ≡ codes "." → ⊥) → list_all is_part (slice_split slash text) ≡ false → (p : Path) → Spells text p → ⊥
not_spelled text full no_dot bad [] s = elim s.1 [ inl e ↦ full e | inr e ↦ no_dot e.1 ]
not_spelled text full no_dot bad (x ∷ ps) s =
    elim s.1 [
      | inl e ↦ let cut : slice_split slash text ≡ x ∷ ps = ap (slice_split slash) e ∙ split-joined x ps s.0 in let good : list_all is_part (slice_split slash text) ≡ true = ap (list_all is_part) cut ∙ s.0 in cc
      | inr e ↦ cc
    ]

-- and else the pieces are spelled
pub spelled : (text : List ℕ) (p : Path) → p ≡ slice_split slash text → list_all is_part (slice_split slash text) ≡ true → Spells text p
spelled text p e good = (subst IsPath (sym e) good, inl (sym (join_with_byte-slice_split 47 text) ∙ ap joined (sym e)))

pub IsPath-take : (p : Path) (n : ℕ) → IsPath p → IsPath (take n p)
IsPath-take p zero h = refl
IsPath-take [] (suc n) h = refl
IsPath-take (x ∷ p) (suc n) h = both (is_part x) _ (left (is_part x) _ h) (IsPath-take p n (right (is_part x) _ h))

joined-push : (x : List ℕ) (p : Path) (y : List ℕ) → joined ((x ∷ p) ++ y ∷ []) ≡ (joined (x ∷ p) ++ 47 ∷ []) ++ y
joined-push x [] y = sym (append_assoc x (47 ∷ []) y)
joined-push x (z ∷ r) y =
    ap (λ t. x ++ (47 ∷ t)) (joined-push z r y) ∙ simp append_assoc

-- the first part
pub joined_first : (p : Path) (n : ℕ) (d : List ℕ) → n ≡ 0 → n < length p → joined (take (n + 1) p) ≡ joined (take n p) ++ get_or p n d
joined_first [] n d e h = absurd (omega arith)
joined_first (x ∷ p) n d e h = rw e refl

pushed : (q : Path) (y : List ℕ) → 0 < length q → joined (q ++ y ∷ []) ≡ (joined q ++ 47 ∷ []) ++ y
pushed [] y h = absurd (omega arith)
pushed (x ∷ q) y h = joined-push x q y

-- a part more
pub joined_next : (p : Path) (n : ℕ) (d : List ℕ) → 0 < n → n < length p → joined (take (n + 1) p) ≡ (joined (take n p) ++ 47 ∷ []) ++ get_or p n d
joined_next p n d low h =
    let some : 0 < length (take n p) = simp length-take (omega arith) in
    ap joined (take_more p n d h) ∙ pushed (take n p) (get_or p n d) some

pub ruleset joins = (joined_first, joined_next)
