-- A tree: a finite map from paths to files with their bytes and directories with their times.
use Rattle.std.specs.Prelude.{◌≡◌, ℕ, ◌-◌, ◌<◌, ◌≤◌, List, [], ◌∷◌, ◌++◌, length, take, drop, nat_eq, if◌then◌else◌, IsTrue, is_some, Bool, true, false, Option, Some, None}
use Rattle.std.specs.Ordering.{nat_cmp}
use Rattle.std.specs.List.Sorted.{IsStrictlySortedBy}
use Rattle.std.specs.Cmp.Lexicographic.{slice_cmp, pointwise}
use Rattle.std.specs.List.{list_any, filter_map}
use Rattle.std.specs.FinMap.{FinMap, get, keys}
use Rattle.base_types.specs.Path.{Path, path_cmp}
use Rattle.tree_files.specs.declared.tree.Node.{Node}
use Rattle.tree_files.specs.declared.tree.Node.TheVariants.{File, Dir}
use Rattle.tree_files.specs.declared.tree.Stamp.{Stamp}
use Rattle.tree_files.specs.declared.tree.Stamp.TheVariants as stamp

-- from each path at which something stands, in the order of their parts, to the one thing that stands there
abbrev pub Files : Type 0
Files = FinMap path_cmp Node

-- what stands at a path
abbrev pub node_at : Files → Path → Option Node
node_at f p = get f p

-- whether a directory stands there; a file is none, and neither is what is absent
abbrev pub is_dir : Option Node → Bool
is_dir (Some (Dir time)) = true
is_dir (Some (File bytes)) = false
is_dir None = false

-- whether a file stands there; a directory is none, and neither is what is absent
abbrev pub is_file : Option Node → Bool
is_file (Some (File bytes)) = true
is_file (Some (Dir time)) = false
is_file None = false

-- a directory of the tree stands at the path
abbrev pub IsDirAt : Files → Path → Type 0
IsDirAt f p = IsTrue (is_dir (node_at f p))

-- a file of the tree stands at the path
abbrev pub IsFileAt : Files → Path → Type 0
IsFileAt f p = IsTrue (is_file (node_at f p))

-- the root is a directory, and so is whatever something stands in
pub record IsTree (f : Files) : Type 0 where
  pub root : IsDirAt f []
  pub inside : (p : Path) (part : List ℕ) → IsTrue (is_some (node_at f (p ++ part ∷ []))) → IsDirAt f p

-- what can be known without reading: how long a file is, and which time a directory has
abbrev pub stamp_of : Option Node → Stamp
stamp_of None = stamp.Absent
stamp_of (Some (File bytes)) = stamp.File (length bytes)
stamp_of (Some (Dir time)) = stamp.Dir time

-- the bytes of a file, and none of anything else
abbrev pub bytes_of : Option Node → List ℕ
bytes_of (Some (File bytes)) = bytes
bytes_of (Some (Dir time)) = []
bytes_of None = []

-- the last part of a path that stands in the directory
abbrev pub name_below : Path → Path → Option (List ℕ)
name_below [] [] = None
name_below [] (name ∷ []) = Some name
name_below [] (part ∷ next ∷ rest) = None
name_below (above ∷ dir) [] = None
name_below (above ∷ dir) (part ∷ rest) = if pointwise nat_eq above part then name_below dir rest else None

-- whether a name is among the names
abbrev pub has_name : List (List ℕ) → List ℕ → Bool
has_name names name = list_any (λ other. pointwise nat_eq other name) names

-- the names in a directory, in the order of their bytes, each once
pub record IsListing (f : Files) (dir : Path) (names : List (List ℕ)) : Type 0 where
  pub ordered : IsStrictlySortedBy (slice_cmp nat_cmp) names
  pub exact : (name : List ℕ) → has_name names name ≡ is_some (node_at f (dir ++ name ∷ []))

-- the names in a directory: the last parts of the paths that stand in it
abbrev pub names_in : Files → Path → List (List ℕ)
names_in f dir = filter_map (name_below dir) (keys f)

-- n bytes from `at` on stand in the buffer, and some where there are some
pub record IsRead (bytes : List ℕ) (at : ℕ) (old new : List ℕ) (n : ℕ) : Type 0 where
  pub filled : new ≡ take n (drop at bytes) ++ drop n old
  pub within : n ≤ length bytes - at
  pub some : 0 < length old → at < length bytes → 0 < n
