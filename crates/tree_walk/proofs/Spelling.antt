-- Names and the paths that they spell.
use Rattle.std.proofs.Common.{◌≡◌, ◌∙◌, refl, sym, ap, subst, ℕ, List, [], ◌∷◌, ◌++◌, Bool, true, false, ◌&&◌, zero, suc, ◌<◌, length, drop, get_or, Option, Some, None, Result, Ok, Err, IfOk, MatchOption, IsTrue, inl, inr, codes, eqb, if◌then◌else◌}
use Rattle.std.proofs.lemmas.Bool.{and_from, and_parts, false_from_ne_true}
use Rattle.std.specs.List.{list_all, slice_split}
use Rattle.std.proofs.lemmas.List.Sums.{AllPass-from_list_all}
use Rattle.base_types.specs.Path.{Path, is_part, IsPath, joined, Spells}
use Rattle.base_types.proofs.PathText.{split-joined}
use Rattle.base_types.specs.declared.no_memory.NoMemory.{NoMemory}
use Rattle.tree_walk.specs.Names.{child_of, child_by}

abbrev slash : ℕ → Bool
slash b = eqb b 47

no_part-[] : IsTrue (is_part []) → ⊥
no_part-[] h = cc

no_part-dot : IsTrue (is_part (codes ".")) → ⊥
no_part-dot h = cc

whole : (name : List ℕ) → is_part name ≡ true → IsPath (name ∷ [])
whole name h = and_from (is_part name) true h refl

-- a part names itself alone
part_only : (name : List ℕ) → is_part name ≡ true → (path : Path) → Spells name path → path ≡ name ∷ []
part_only name h [] s = elim s.1 [
  | inl e ↦ absurd (no_part-[] (subst (λ w. IsTrue (is_part w)) e h))
  | inr e ↦ absurd (no_part-dot (subst (λ w. IsTrue (is_part w)) e.1 h))
]
part_only name h (x ∷ ps) s = elim s.1 [
  | inl e ↦ sym (split-joined x ps s.0) ∙ ap (slice_split slash) (sym e) ∙ split-joined name [] (whole name h)
  | inr e ↦ cc
]

-- a path of one part is named by that part
one_named : (name part : List ℕ) → Spells name (part ∷ []) → (name ≡ part) × (is_part name ≡ true)
one_named name part s =
    let good : is_part part ≡ true = (and_parts (is_part part) true s.0).0 in
    elim s.1 [
      | inl e ↦ (e, ap is_part e ∙ good)
      | inr e ↦ cc
    ]

child_if : (dir : Path) (name : List ℕ) (b : Bool) → is_part name ≡ b → child_of dir name ≡ (if b then Some (dir ++ name ∷ []) else None)
child_if dir name b is = ap (λ (c : Bool). if c then Some (dir ++ name ∷ []) else None) is

-- where the name spells a path, what stands there is what the one part of that path stands for
pub child_spelled : (dir : Path) (name : List ℕ) (path : Path) → Spells name path → child_by dir path ≡ child_of dir name
child_spelled dir name [] s = sym (child_if dir name false (false_from_ne_true (is_part name) (λ h. let bad : [] ≡ name ∷ [] = part_only name h [] s in cc)))
child_spelled dir name (part ∷ []) s =
    let one = one_named name part s in
    ap (λ (n : List ℕ). Some (dir ++ n ∷ [])) (sym one.0) ∙ sym (child_if dir name true one.1)
child_spelled dir name (part ∷ next ∷ rest) s = sym (child_if dir name false (false_from_ne_true (is_part name) (λ h. let bad : part ∷ next ∷ rest ≡ name ∷ [] = part_only name h (part ∷ next ∷ rest) s in cc)))

-- where it spells none, it stands nowhere
pub child_unspelled : (dir : Path) (name : List ℕ) → ((path : Path) → Spells name path → ⊥) → None ≡ child_of dir name
child_unspelled dir name never = sym (child_if dir name false (false_from_ne_true (is_part name) (λ h. never (name ∷ []) (whole name h, inl refl))))

pub child_later : (dir : Path) (name : List ℕ) (path : Path) (r : Result (Option Path) NoMemory) → Spells name path → IfOk r (λ o. o ≡ child_by dir path) → IfOk r (λ o. o ≡ child_of dir name)
child_later dir name path (Ok o) s e = e ∙ child_spelled dir name path s
child_later dir name path (Err e) s h = tt

-- ---- the parts of a path

-- each part of a path is one
pub part_is : (p xs : Path) (i : ℕ) (part : List ℕ) → IsPath p → xs ≡ p → i < length xs → part ≡ get_or xs i part → is_part part ≡ true
part_is p xs i part good same low is = ap is_part is ∙ AllPass-from_list_all is_part xs (ap (list_all is_part) same ∙ good) i part low

pub path_behind : (n : ℕ) (p : Path) → IsPath p → IsPath (drop n p)
path_behind zero p good = good
path_behind (suc n) [] good = refl
path_behind (suc n) (x ∷ p) good = path_behind n p (and_parts (is_part x) (list_all is_part p) good).1
