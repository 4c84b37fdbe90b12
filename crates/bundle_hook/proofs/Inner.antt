-- Looking through the files of an index.
use Rattle.std.proofs.Common.{◌≡◌, ◌∙◌, refl, sym, ℕ, List, [], ◌∷◌, ◌++◌, Bool, true, false, ◌&&◌, nat_eq, Option, Some, None, if◌then◌else◌}
use Rattle.std.specs.Cmp.Lexicographic.{pointwise, nat_list_eq_equiv}
use Rattle.base_types.specs.Path.{Path}
use Rattle.tree_files.specs.Edits.{is_within}
use Rattle.tree_overlay.specs.Names.{part_after}

-- ---- names

abbrev pub is_name : List ℕ → Option (List ℕ) → Bool
is_name other None = false
is_name other (Some name) = pointwise nat_eq name other

and_true : (b : Bool) → b && true ≡ b
and_true true = refl
and_true false = refl

name_below : (b : Bool) (other : List ℕ) (o : Option (List ℕ)) (w : Bool) → is_name other o ≡ w → is_name other (if b then o else None) ≡ b && w
name_below true other o w e = e
name_below false other o w e = refl

-- a name is the next one behind a folder where the path lies at it or below
pub next_name : (folder path : Path) (other : List ℕ) → is_name other (part_after folder path) ≡ is_within (folder ++ other ∷ []) path
next_name [] [] other = refl
next_name [] (part ∷ path) other = nat_list_eq_equiv.symm part other ∙ sym (and_true (pointwise nat_eq other part))
next_name (above ∷ folder) [] other = refl
next_name (above ∷ folder) (part ∷ path) other = name_below (pointwise nat_eq above part) other (part_after folder path) (is_within (folder ++ other ∷ []) path) (next_name folder path other)
