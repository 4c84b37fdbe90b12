-- Where a path leads.
use Rattle.std.specs.Prelude.{◌≡◌, ◌≤◌, List, length, take, ⊤, Option, Some, None}
use Rattle.base_types.specs.Path.{Path}
use Rattle.tree_files.specs.Files.{Files, node_at, stamp_of}
use Rattle.bundle_hook.specs.declared.kept.Kept.{Kept}
use Rattle.bundle_hook.specs.declared.place.Found.{Found}
use Rattle.bundle_hook.specs.declared.place.Place.{Place}
use Rattle.bundle_hook.specs.declared.place.Place.TheVariants.{Outside, Inside}
use Rattle.bundle_hook.specs.Expand.{expand}
use Rattle.bundle_hook.specs.Indexes.{IsKeptAt}

-- to a place in no bundle, where everything is as in the tree inside; or to a place in a bundle that stands at the first
-- parts of the path
abbrev pub Leads : Files → List Kept → Path → Place → Type 0
Leads f kept path (Outside stamp) = (node_at (expand f) path ≡ node_at f path) × (stamp ≡ stamp_of (node_at f path))
Leads f kept path (Inside found) = (found.parts ≤ length path) × IsKeptAt f kept found.at (take found.parts path)

-- the same without what stands there: past all bundles, or into one
abbrev pub LeadsInto : Files → List Kept → Path → Option Found → Type 0
LeadsInto f kept path None = node_at (expand f) path ≡ node_at f path
LeadsInto f kept path (Some found) = Leads f kept path (Inside found)

-- a bundle that the path leads into stands at some of its first parts
abbrev pub IsAlong : Path → Place → Type 0
IsAlong path (Outside stamp) = ⊤
IsAlong path (Inside found) = found.parts ≤ length path
