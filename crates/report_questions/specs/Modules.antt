-- The module that a file is, by its place in the folder that is reported: its name is its path below that folder with
-- `.py` or `/__init__.py` taken off and dots for the slashes, where that is a dotted name. `__init__.py` directly in the
-- folder is no module.
use Rattle.std.specs.Prelude.{ℕ, Bool, ◌++◌, if◌then◌else◌, List, [], ◌∷◌, codes, Option, Some, None}
use Rattle.std.specs.Option.{option_map}
use Rattle.std.specs.Str.{bytes_eq}
use Rattle.spec_core.specs.Identifiers.{is_dotted}
use Rattle.spec_core.specs.Names.{parent_of}
use Rattle.spec_core.specs.Packages.{package_of}
use Rattle.spec_core.specs.declared.spec.SpecKind.{SpecKind}
use Rattle.spec_core.specs.declared.spec.SpecKind.TheVariants as kinds
use Rattle.report_questions.specs.Statements.{dotted_name}

-- the file that makes its folder a package (Language Reference 5.2.1)
abbrev pub is_first_file : List ℕ → Bool
is_first_file name = bytes_eq name (codes "__init__.py")

-- what stands before the last dot, and where there is none the whole name
abbrev pub front_or_whole : List ℕ → Option (List ℕ) → List ℕ
front_or_whole name None = name
front_or_whole name (Some front) = front

-- a source file's name without its `.py`
abbrev pub without_suffix : List ℕ → List ℕ
without_suffix name = front_or_whole name (parent_of name)

-- the parts of the name of the module that the file of this name is, in these folders
abbrev pub module_parts : List (List ℕ) → List ℕ → List (List ℕ)
module_parts folders name = if is_first_file name then folders else folders ++ without_suffix name ∷ []

-- a text, where it is a dotted name
abbrev pub name_or_none : List ℕ → Option (List ℕ)
name_or_none text = if is_dotted text then Some text else None

-- the name of that module
abbrev pub module_name : List (List ℕ) → List ℕ → Option (List ℕ)
module_name folders name = name_or_none (dotted_name (module_parts folders name))

-- whether it is a package; of which files, its package does not depend on
abbrev pub kind_of : List ℕ → SpecKind
kind_of name = if is_first_file name then kinds.Package [] [] else kinds.Source []

-- its package; a file that is no module has none
abbrev pub package_of_file : List (List ℕ) → List ℕ → Option (List ℕ)
package_of_file folders name = option_map (λ name_of. package_of name_of (kind_of name)) (module_name folders name)
