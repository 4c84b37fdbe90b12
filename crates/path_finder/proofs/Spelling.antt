-- The tree path that a text spells, and the one that is computed of it.
use Rattle.std.proofs.Common.{◌≡◌, ◌∙◌, refl, sym, ap, subst, ℕ, List, [], ◌∷◌, Bool, true, false, ◌&&◌, IsTrue, length, nat_eq, codes, ◌==◌, inl, inr, Option, None, Some, MatchOption, Result, Ok, Err, IfOk, arith, if◌then◌else◌, eqb-true}
use Rattle.std.specs.Cmp.Lexicographic.{pointwise, bytes_decides}
use Rattle.std.specs.List.{list_all, slice_split}
use Rattle.base_types.specs.Path.{Path, is_part, IsPath, joined, Spells}
use Rattle.base_types.proofs.PathText.{split-joined, spelled}
use Rattle.base_types.specs.declared.no_memory.NoMemory.{NoMemory}
use Rattle.path_finder.specs.Entries.{pieces, path_of}

abbrev slash : ℕ → Bool
slash b = b == 47

abbrev is_dot : List ℕ → Bool
is_dot text = pointwise nat_eq text (codes ".")

abbrev chosen : Bool → Bool → List ℕ → Path
chosen a b text = if a then [] else (if b then [] else slice_split slash text)

left : (a b : Bool) → a && b ≡ true → a ≡ true
left true b e = refl
left false b e = e

length_none : (text : List ℕ) → (length text == 0) ≡ true → text ≡ []
length_none [] e = refl
length_none (b ∷ bs) e = let z : length (b ∷ bs) ≡ 0 = eqb-true (length (b ∷ bs)) 0 e in absurd (omega arith)

spelled_by : (text : List ℕ) (a b : Bool) → (length text == 0) ≡ a → is_dot text ≡ b → list_all is_part (chosen a b text) ≡ true → Spells text (chosen a b text)
spelled_by text true b e f good = (refl, inl (length_none text e))
spelled_by text false true e f good = (refl, inr (refl, (bytes_decides text (codes ".")).0 f))
spelled_by text false false e f good = spelled text _ refl good

none_by : (q : Path) (c : Bool) → list_all is_part q ≡ c → (list_all is_part q ≡ true → ⊥) → (if c then Some q else None) ≡ None
none_by q true e not_good = absurd (not_good e)
none_by q false e not_good = refl

-- where nothing is spelled, there is no path
pub path_of-none : (text : List ℕ) → ((p : Path) → Spells text p → ⊥) → path_of text ≡ None
unfolding path_of
path_of-none text nothing = none_by (pieces text) (list_all is_part (pieces text)) refl (λ good. nothing (pieces text) (spelled_by text _ _ refl refl good))

cut_of : (x : List ℕ) (ps : Path) (t : List ℕ) → IsPath (x ∷ ps) → joined (x ∷ ps) ≡ t → slice_split slash t ≡ x ∷ ps
cut_of x ps t h e = ap (slice_split slash) (sym e) ∙ split-joined x ps h

not_empty : (x : List ℕ) (ps : Path) → IsPath (x ∷ ps) → joined (x ∷ ps) ≡ [] → ⊥
not_empty x ps h e =
    let cut : ([] ∷ []) ≡ x ∷ ps = cut_of x ps [] h e in
    let same : [] ≡ x = cc in
    let bad : is_part [] ≡ true = subst (λ y. is_part y ≡ true) (sym same) (left (is_part x) _ h) in
    cc

not_dot : (x : List ℕ) (ps : Path) → IsPath (x ∷ ps) → joined (x ∷ ps) ≡ codes "." → ⊥
not_dot x ps h e =
    let cut : (codes "." ∷ []) ≡ x ∷ ps = cut_of x ps (codes ".") h e in
    let same : codes "." ≡ x = cc in
    let bad : is_part (codes ".") ≡ true = subst (λ y. is_part y ≡ true) (sym same) (left (is_part x) _ h) in
    cc

pieces_by : (x : List ℕ) (ps : Path) (a b : Bool) → IsPath (x ∷ ps) → (length (joined (x ∷ ps)) == 0) ≡ a → is_dot (joined (x ∷ ps)) ≡ b → chosen a b (joined (x ∷ ps)) ≡ x ∷ ps
pieces_by x ps true b h e f = absurd (not_empty x ps h (length_none _ e))
pieces_by x ps false true h e f = absurd (not_dot x ps h ((bytes_decides (joined (x ∷ ps)) (codes ".")).0 f))
pieces_by x ps false false h e f = split-joined x ps h

some_by : (q p : Path) → IsPath p → q ≡ p → (if list_all is_part q then Some q else None) ≡ Some p
some_by q p h e = subst (λ r. (if list_all is_part r then Some r else None) ≡ Some p) (sym e) (ap (λ c. if c then Some p else None) h)

spells_joined : (p : Path) → IsPath p → path_of (joined p) ≡ Some p
unfolding path_of
spells_joined [] h = refl
spells_joined (x ∷ ps) h = some_by (pieces (joined (x ∷ ps))) (x ∷ ps) h (pieces_by x ps _ _ h refl refl)

-- a path that is spelled is the one that is computed
pub path_of-some : (text : List ℕ) (p : Path) → Spells text p → path_of text ≡ Some p
unfolding path_of
path_of-some text p s = elim s.1 [
  | inl e ↦ ap path_of e ∙ spells_joined p s.0
  | inr e ↦ ap path_of e.1 ∙ ap Some (sym e.0)
]

pub path_of_read : (text : List ℕ) (o : Option Path) → MatchOption o ((p : Path) → Spells text p → ⊥) (Spells text) → o ≡ path_of text
path_of_read text None nothing = sym (path_of-none text nothing)
path_of_read text (Some p) s = sym (path_of-some text p s)

pub path_read : (r : Result (Option Path) NoMemory) (text : List ℕ) → IfOk r (λ o. MatchOption o ((p : Path) → Spells text p → ⊥) (Spells text)) → IfOk r (λ it. it ≡ path_of text)
path_read (Ok o) text h = path_of_read text o h
path_read (Err e) text h = tt
