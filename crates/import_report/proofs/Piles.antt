-- Piles of parts that are still to be told.
use Rattle.std.proofs.Common.{◌≡◌, ◌∙◌, sym, ap, ℕ, ◌+◌, ◌-◌, ◌≤◌, List, [], ◌∷◌, ◌++◌, length, drop, flat_map, Some, None, append_assoc, append-nil}
use Rattle.std.specs.List.{slice_get}
use Rattle.base_types.specs.Path.{Path, is_part}
use Rattle.std.specs.Prelude.{false}
use Rattle.tree_files.specs.Files.{Files}
use Rattle.tree_files.specs.declared.tree.Node.{Node}
use Rattle.tree_walk.specs.Below.{all_within}
use Rattle.tree_walk.proofs.Splitting.{all_within-no_part}
use Rattle.tree_walk.proofs.Walking.{next_item, no_item}
use Rattle.import_report.specs.Due.{of_part, of_pile}
use Rattle.import_report.specs.declared.pending.Asked.{Asked}
use Rattle.import_report.specs.declared.pending.Pending.{Pending}
use Rattle.import_report.specs.declared.pending.Pending.TheVariants as pending

module _ {X : Type 0} (tell : ℕ → Path × Node → List X) (answer : Asked → List X) (f : Files) where
  -- the part that was put last comes first
  push_last : (pile : List Pending) (part : Pending) → of_pile tell answer f (pile ++ part ∷ []) ≡ of_part tell answer f part ++ of_pile tell answer f pile
  push_last [] part = sym (append-nil (of_part tell answer f part))
  push_last (other ∷ pile) part =
      ap (λ (l : List X). l ++ of_part tell answer f other) (push_last pile part)
      ∙ append_assoc (of_part tell answer f part) (of_pile tell answer f pile) (of_part tell answer f other)

  pub put_last : (old new : List Pending) (part : Pending) → new ≡ old ++ part ∷ [] → of_pile tell answer f new ≡ of_part tell answer f part ++ of_pile tell answer f old
  put_last old new part put = ap (of_pile tell answer f) put ∙ push_last old part

  -- of the names of a folder, from one on
  abbrev names_from : Path → List (List ℕ) → ℕ → ℕ → List X
  names_from dir names at parts = flat_map (λ a. all_within (tell parts) f (dir ++ a ∷ [])) (drop at names)

  -- behind the last name there is none
  pub names_over : (dir : Path) (names : List (List ℕ)) (at parts : ℕ) (old : List Pending) → slice_get names at ≡ None → names_from dir names at parts ++ of_pile tell answer f old ≡ of_pile tell answer f old
  names_over dir names at parts old is = ap (λ (ns : List (List ℕ)). flat_map (λ a. all_within (tell parts) f (dir ++ a ∷ [])) ns ++ of_pile tell answer f old) (no_item names at is)

  module _ (dir : Path) (names : List (List ℕ)) (at parts : ℕ) (near : length dir - parts ≤ 64) (name : List ℕ) (old mid : List Pending) (is : slice_get names at ≡ Some name)
      (put : mid ≡ old ++ pending.Folder (record { dir = dir; names = names; at = at + 1; above = parts; near = near }) ∷ []) where
    -- one name, and then those behind it
    pub name_first : names_from dir names at parts ++ of_pile tell answer f old ≡ all_within (tell parts) f (dir ++ name ∷ []) ++ of_pile tell answer f mid
    name_first =
        ap (λ (ns : List (List ℕ)). flat_map (λ a. all_within (tell parts) f (dir ++ a ∷ [])) ns ++ of_pile tell answer f old) (next_item names at name is)
        ∙ append_assoc (all_within (tell parts) f (dir ++ name ∷ [])) (names_from dir names (at + 1) parts) (of_pile tell answer f old)
        ∙ ap (λ (l : List X). all_within (tell parts) f (dir ++ name ∷ []) ++ l) (sym (put_last old mid (pending.Folder (record { dir = dir; names = names; at = at + 1; above = parts; near = near })) put))

    -- the name stands at a path, which comes next
    pub name_next : (path : Path) (close : length path - parts ≤ 65) (new : List Pending) → path ≡ dir ++ name ∷ [] → new ≡ mid ++ pending.Place (record { path = path; above = parts; near = close }) ∷ []
        → names_from dir names at parts ++ of_pile tell answer f old ≡ of_pile tell answer f new
    name_next path close new child next =
        name_first
        ∙ ap (λ (p : Path). all_within (tell parts) f p ++ of_pile tell answer f mid) (sym child)
        ∙ sym (put_last mid new (pending.Place (record { path = path; above = parts; near = close })) next)

    -- the name is no part of a tree path
    pub name_passed : is_part name ≡ false → names_from dir names at parts ++ of_pile tell answer f old ≡ of_pile tell answer f mid
    name_passed off = name_first ∙ ap (λ (l : List X). l ++ of_pile tell answer f mid) (all_within-no_part (tell parts) f dir name off)
