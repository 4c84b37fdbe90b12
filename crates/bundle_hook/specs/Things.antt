-- What an index says of a path below its bundle.
use Rattle.std.specs.Prelude.{◌≡◌, ◌≤◌, ◌<◌, ◌+◌, ◌^◌, ◌++◌, ℕ, List, length, take, drop, slice_get, [], ◌∷◌, Option, Some, None, if◌then◌else◌}
use Rattle.std.specs.Ordering.{nat_cmp}
use Rattle.std.specs.List.{list_any}
use Rattle.std.specs.List.Sorted.{IsStrictlySortedBy}
use Rattle.std.specs.Cmp.Lexicographic.{slice_cmp}
use Rattle.base_types.specs.Path.{Path}
use Rattle.tree_files.specs.Edits.{is_within}
use Rattle.tree_files.specs.Files.{has_name, IsRead}
use Rattle.tree_files.specs.declared.tree.Stamp.{Stamp}
use Rattle.tree_files.specs.declared.tree.Stamp.TheVariants as stamp
use Rattle.tree_overlay.specs.Fates.{is_same}
use Rattle.bundle_hook.specs.Spelling.{Before}
use Rattle.bundle_hook.specs.declared.bundle.Item.{Item}
use Rattle.bundle_hook.specs.declared.bundle.Index.{Index}

-- what stands at a path below a bundle
pub data Thing : Type 0 where
  Nothing : Thing
  Folder : Thing
  AFile : (item : Item) → Thing

-- the file where the path is that of the file, a folder where the path is on the way to it, and else what is found further on
abbrev pub thing_of : Item → Path → Thing → Thing
thing_of item path further = if is_same item.path path then AFile item else (if is_within path item.path then Folder else further)

-- a file where the path is that of one, and a folder where the path is on the way to one
abbrev pub thing_among : List Item → Path → Thing
thing_among [] path = Nothing
thing_among (item ∷ items) path = thing_of item path (thing_among items path)

-- the paths ascend strictly, and none is a prefix of another
abbrev pub AscendItems : List Item → Type 0
AscendItems items = (i j : ℕ) (first later : Item) → i < j → slice_get items i ≡ Some first → slice_get items j ≡ Some later → Before first.path later.path

-- the bundle itself is a folder
abbrev pub thing_at : List Item → Path → Thing
thing_at items [] = Folder
thing_at items (part ∷ path) = thing_among items (part ∷ path)

-- the same by the bundle's index; nothing where there is none
abbrev pub thing_by : Option Index → Path → Thing
thing_by None path = Nothing
thing_by (Some index) path = thing_at index.items path

-- what can be known without reading
abbrev pub stamp_of_thing : Thing → Stamp
stamp_of_thing Nothing = stamp.Absent
stamp_of_thing Folder = stamp.Dir 0
stamp_of_thing (AFile item) = stamp.File item.size

-- the names of what stands in a folder, in the order of their bytes, each once
pub record AreNames (items : List Item) (path : Path) (names : List (List ℕ)) : Type 0 where
  pub ordered : IsStrictlySortedBy (slice_cmp nat_cmp) names
  pub exact : (name : List ℕ) → has_name names name ≡ list_any (λ item. is_within (path ++ name ∷ []) item.path) items

-- bytes of a file are read where the bundle has them, and none of anything else
abbrev pub ReadsThing : List ℕ → Thing → ℕ → List ℕ → List ℕ → ℕ → Type 0
ReadsThing bundle Nothing at old new n = (n ≡ 0) × (new ≡ old)
ReadsThing bundle Folder at old new n = (n ≡ 0) × (new ≡ old)
ReadsThing bundle (AFile item) at old new n = item.at + item.size ≤ length bundle → length bundle < 2 ^ 64 → IsRead (take item.size (drop item.at bundle)) at old new n
