-- The indexes that are kept of a tree's bundles.
use Rattle.std.specs.Prelude.{◌≡◌, ◌∷◌, ◌++◌, ◌<◌, ◌^◌, [], ℕ, List, length, take, slice_get, Option, Some, None, is_some, IsTrue, true}
use Rattle.std.specs.Option.{ForSome, option_and_then}
use Rattle.std.specs.List.{All}
use Rattle.std.proofs.Props.{props}
use Rattle.base_types.specs.Path.{Path}
use Rattle.tree_files.specs.Files.{Files, IsDirAt, node_at, stamp_of, bytes_of}
use Rattle.tree_files.specs.declared.tree.Stamp.TheVariants as stamp
use Rattle.bundle_hook.specs.declared.bundle.Packed.{Packed}
use Rattle.bundle_hook.specs.declared.bundle.Index.{Index}
use Rattle.bundle_hook.specs.Bundle.{entries_of, index_of}
use Rattle.bundle_hook.specs.Files.{index_in}
use Rattle.bundle_hook.specs.declared.kept.Kept.{Kept}
use Rattle.bundle_hook.specs.Expand.{names_bundle, bundle_at}

-- a file of this size stands there, whose name is that of a bundle, and the index is that of the file; its size is a u64
pub record IsRight (f : Files) (kept : Kept) : Type 0 where
  pub stamp : stamp_of (node_at f kept.path) ≡ stamp.File kept.size
  pub named : names_bundle kept.path ≡ true
  pub fits : kept.size < 2 ^ 64
  pub index : kept.index ≡ index_in (bytes_of (node_at f kept.path))

-- where files are told, each index is right
unfoldable pub AreRight : Option Files → List Kept → Type 0
AreRight told kept = ForSome told (λ f. All (IsRight f) kept)

-- whether the indexes are right is a fact: no two proofs of it differ
pub AreRight-prop : (told : Option Files) (kept : List Kept) → IsProp (AreRight told kept)
unfolding AreRight
AreRight-prop told kept = Prim.hlevel props

-- what `IsTree` says of files, in the words of a field that is kept
abbrev pub StandAsTree : Files → Type 0
StandAsTree f = IsDirAt f [] × ((p : Path) (part : List ℕ) → IsTrue (is_some (node_at f (p ++ part ∷ []))) → IsDirAt f p)

-- where something is kept, the tree inside has answered before: the files that it tells are a tree
abbrev pub HasAnswered : Option Files → List Kept → Type 0
HasAnswered told kept = 0 < length kept → ForSome told StandAsTree

-- the index at a place
abbrev pub index_at : List Kept → ℕ → Option Index
index_at kept at = option_and_then (λ (k : Kept). k.index) (slice_get kept at)

-- a bundle stands at the path, whose index is at this place; its size was told, so that it is a u64
abbrev pub IsKeptAt : Files → List Kept → ℕ → Path → Type 0
IsKeptAt f kept at path = (files : List Packed) × (bundle_at f path ≡ Some files) × (index_at kept at ≡ Some (index_of (entries_of files))) × (length (bytes_of (node_at f path)) < 2 ^ 64)

-- no bundle stands at one of the first parts of the path
abbrev pub HasNoBundle : Files → Path → ℕ → Type 0
HasNoBundle f path n = (m : ℕ) → m < n → bundle_at f (take m path) ≡ None
