-- Names as the keys of a set.
use Rattle.std.specs.Prelude.{ℕ, Bool, List}
use Rattle.std.specs.BTreeSet.{BTreeSet}
use Rattle.tree_files.specs.Files.{has_name}

-- whether the name is a key of the set
abbrev pub holds : BTreeSet (List ℕ) → List ℕ → Bool
holds names name = has_name names.keys name
