-- What a dotted name means on a search path, before anything is imported: its parts are searched in order, as an import
-- of it searches them (Language Reference 5.3), the first on the path and each next one on the path of the one before.
use Rattle.std.specs.Prelude.{ℕ, ◌||◌, Bool, if◌then◌else◌, List, [], ◌∷◌, map, codes, Option, Some, None}
use Rattle.std.specs.Str.{bytes_eq}
use Rattle.py_value.specs.declared.value.Value.{Value}
use Rattle.py_value.specs.declared.value.Value.TheVariants as values
use Rattle.spec_core.specs.Identifiers.{is_dotted}
use Rattle.spec_core.specs.Names.{parts, joined}
use Rattle.spec_core.specs.declared.spec.SpecKind.{SpecKind}
use Rattle.spec_core.specs.declared.spec.SpecKind.TheVariants as kinds
use Rattle.tree_files.specs.Files.{Files}
use Rattle.path_finder.specs.Find.{find}
use Rattle.path_finder.specs.declared.words.Found.{Found}
use Rattle.path_finder.specs.declared.words.Found.TheVariants as founds
use Rattle.import_report.specs.declared.meaning.Meaning.{Meaning}
use Rattle.import_report.specs.declared.meaning.Meaning.TheVariants as meaning

-- the modules that the interpreter has without a search
abbrev pub is_builtin : List ℕ → Bool
is_builtin name = bytes_eq name (codes "sys") || (bytes_eq name (codes "importlib") || bytes_eq name (codes "pyimport"))

-- the entries of a path as the values that a search takes
abbrev pub entries : List (List ℕ) → List Value
entries path = map (λ text. values.Text text) path

-- ---- one search

-- what a spec of each kind says of a name
abbrev pub kind_means : SpecKind → Meaning
kind_means kinds.Builtin = meaning.Builtin
kind_means (kinds.Source file) = meaning.Module file
kind_means (kinds.Package file path) = meaning.Package file path
kind_means (kinds.Namespace path) = meaning.Namespace path

-- what was found says what the name means; where nothing was, the name is missing
abbrev pub found_means : List ℕ → Option Found → Meaning
found_means name None = meaning.Missing name
found_means name (Some (founds.Spec spec)) = kind_means spec.kind
found_means name (Some (founds.Portions portions)) = meaning.Namespace portions

-- what a name is found to be on a path, by Find with no listings; only a dotted name is found
abbrev pub search_means : Files → List (List ℕ) → List ℕ → Meaning
search_means f path name = if is_dotted name then found_means name (find f name (entries path) []) else meaning.Missing name

-- ---- part by part

-- the first part is searched on the path, but for a name that is built in
abbrev pub first_means : Files → List (List ℕ) → List ℕ → Meaning
first_means f path name = if is_builtin name then meaning.Builtin else search_means f path name

-- what the longer name means where `name` means this: it is searched on the path of a package or a namespace; a module,
-- built in or not, is no package; what is behind a name that has failed fails as that does
abbrev pub member_means : Files → List ℕ → Meaning → List ℕ → Meaning
member_means f name meaning.Builtin longer = meaning.NotPackage name
member_means f name (meaning.Module file) longer = meaning.NotPackage name
member_means f name (meaning.Package file path) longer = search_means f path longer
member_means f name (meaning.Namespace path) longer = search_means f path longer
member_means f name (meaning.Missing n) longer = meaning.Missing n
member_means f name (meaning.NotPackage n) longer = meaning.NotPackage n

-- what is meant with these parts more, where `name` means this
abbrev pub onward : Files → List ℕ → Meaning → List (List ℕ) → Meaning
onward f name m [] = m
onward f name m (part ∷ more) = onward f (joined name part) (member_means f name m (joined name part)) more

-- of a name by its parts, of which there is one at least
abbrev pub parts_mean : Files → List (List ℕ) → List (List ℕ) → Meaning
parts_mean f path [] = meaning.Missing []
parts_mean f path (part ∷ more) = onward f part (first_means f path part) more

-- what a name means on a path
unfoldable pub meaning_of : Files → List (List ℕ) → List ℕ → Meaning
meaning_of f path name = parts_mean f path (parts name)
