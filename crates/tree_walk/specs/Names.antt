-- Where the names of a folder stand.
use Rattle.std.specs.Prelude.{ℕ, List, [], ◌∷◌, ◌++◌, Option, Some, None, if◌then◌else◌}
use Rattle.base_types.specs.Path.{Path, is_part}

-- where a name stands in a folder; what is no part of a tree path stands nowhere
abbrev pub child_of : Path → List ℕ → Option Path
child_of dir name = if is_part name then Some (dir ++ name ∷ []) else None

-- the folder with one more part, where a path has one part
abbrev pub child_by : Path → Path → Option Path
child_by dir [] = None
child_by dir (part ∷ []) = Some (dir ++ part ∷ [])
child_by dir (part ∷ next ∷ rest) = None
