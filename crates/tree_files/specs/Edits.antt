-- Edits of a tree.
use Rattle.std.specs.Prelude.{◌≡◌, ◌++◌, ℕ, Bool, true, false, not, ◌&&◌, nat_eq, List, [], ◌∷◌, map, take, if◌then◌else◌}
use Rattle.std.specs.List.{list_all}
use Rattle.std.specs.Cmp.Lexicographic.{pointwise}
use Rattle.std.specs.FinMap.{insert, retain_keys}
use Rattle.base_types.specs.Path.{Path}
use Rattle.tree_files.specs.Files.{Files, node_at, is_dir, is_file, IsDirAt}
use Rattle.tree_files.specs.declared.tree.Node.{Node}
use Rattle.tree_files.specs.declared.tree.Node.TheVariants.{File, Dir}
use Rattle.tree_files.specs.declared.edit.Edit.{Edit}
use Rattle.tree_files.specs.declared.edit.Edit.TheVariants as edit

-- the proper prefixes of a path, from the root on
abbrev pub prefixes : Path → List Path
prefixes [] = []
prefixes (part ∷ rest) = [] ∷ map (λ p. part ∷ p) (prefixes rest)

-- what the path stands in, if it is not the root, is a directory
abbrev pub HasParent : Files → Path → Type 0
HasParent f q = (p : Path) (part : List ℕ) → q ≡ p ++ part ∷ [] → IsDirAt f p

-- a directory at the path, where none is there
abbrev pub with_dir_at : Files → Path → Files
with_dir_at f p = if is_dir (node_at f p) then f else insert f p (Dir 0)

-- directories at all of the paths, one after another
abbrev pub with_dirs : Files → List Path → Files
with_dirs f [] = f
with_dirs f (p ∷ ps) = with_dirs (with_dir_at f p) ps

-- a node at the path, with directories on the way to it
abbrev pub placed : Files → Path → Node → Files
placed f p node = insert (with_dirs f (prefixes p)) p node

-- some of the directories on the way to the path were made, those next to the root first
abbrev pub HasDirs : Files → Path → Files → Type 0
HasDirs f p g = (n : ℕ) × (g ≡ with_dirs f (take n (prefixes p)))

-- no file is on the way to the path
abbrev pub is_way_free : Files → Path → Bool
is_way_free f p = list_all (λ q. not (is_file (node_at f q))) (prefixes p)

-- a file may be put at the path: no file is on the way, and no directory is there
abbrev pub takes_file : Files → Path → Bool
takes_file f p = is_way_free f p && not (is_dir (node_at f p))

-- a directory may be put at the path: no file is on the way, and none is there
abbrev pub takes_dir : Files → Path → Bool
takes_dir f p = is_way_free f p && not (is_file (node_at f p))

-- whether q is p or lies below it
abbrev pub is_within : Path → Path → Bool
is_within [] q = true
is_within (x ∷ p) [] = false
is_within (x ∷ p) (y ∷ q) = pointwise nat_eq x y && is_within p q

-- without the path and all below it
abbrev pub cleared : Files → Path → Files
cleared f p = retain_keys f (λ q. not (is_within p q))

-- the tree after one edit
abbrev pub edited_once : Files → Edit → Files
edited_once f (edit.File p bytes) = placed (cleared f p) p (File bytes)
edited_once f (edit.Dir p time) = placed f p (Dir time)
edited_once f (edit.Remove p) = cleared f p

-- the tree after edits, one after another
abbrev pub edited : Files → List Edit → Files
edited f [] = f
edited f (e ∷ es) = edited (edited_once f e) es
