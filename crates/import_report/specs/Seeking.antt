-- A search that looks at what stands where a name may stand, in one entry of the path after another.
use Rattle.std.specs.Prelude.{ℕ, List, [], ◌∷◌, ◌++◌, codes, if◌then◌else◌, Option, Some, None}
use Rattle.base_types.specs.Path.{Path, joined}
use Rattle.spec_core.specs.Names.{tail_of}
use Rattle.spec_core.specs.declared.spec.SpecKind.{SpecKind}
use Rattle.spec_core.specs.declared.spec.SpecKind.TheVariants as kinds
use Rattle.tree_files.specs.Files.{Files, node_at, is_dir, is_file}
use Rattle.path_finder.specs.Entries.{path_of}
use Rattle.path_finder.specs.Find.{below, folder, module_file, module_in, answer}
use Rattle.path_finder.specs.declared.words.Found.{Found}
use Rattle.path_finder.specs.declared.words.Found.TheVariants as founds
use Rattle.import_report.specs.declared.offers.Offer.{Offer}
use Rattle.import_report.specs.declared.offers.Offer.TheVariants as offers

-- the file that makes a folder a regular package (Language Reference 5.2.1)
abbrev pub first_of : Path → Path
first_of at = below at (codes "__init__.py")

-- the package of a folder and this file
abbrev pub package_of : Path → Path → Offer
package_of at first = offers.Decides (kinds.Package (joined first) (joined at ∷ []))

-- a folder with the file of a package is a regular package, and else a portion
abbrev pub folder_offer : Files → Path → Offer
folder_offer f at = if is_file (node_at f (first_of at)) then package_of at (first_of at) else offers.Portion (joined at)

-- what a path has as a folder
abbrev pub offer_of_folder : Files → Path → Offer
offer_of_folder f at = if is_dir (node_at f at) then folder_offer f at else offers.Nothing

-- a package decides; where there is none, a module does, which goes before a portion
abbrev pub either : Offer → Option SpecKind → Offer
either (offers.Decides kind) found = offers.Decides kind
either (offers.Portion portion) (Some kind) = offers.Decides kind
either (offers.Portion portion) None = offers.Portion portion
either offers.Nothing (Some kind) = offers.Decides kind
either offers.Nothing None = offers.Nothing

-- the module that a file is
abbrev pub module_at : Files → Path → Option SpecKind
module_at f at = if is_file (node_at f at) then Some (kinds.Source (joined at)) else None

-- what a directory has for the last part of a name
abbrev pub offer_in : Files → List ℕ → Path → Offer
offer_in f part dir = either (offer_of_folder f (folder dir part)) (module_at f (module_file dir part))

-- what a path has: only a directory is searched
abbrev pub offer_at : Files → List ℕ → Option Path → Offer
offer_at f part (Some dir) = if is_dir (node_at f dir) then offer_in f part dir else offers.Nothing
offer_at f part None = offers.Nothing

-- what an entry of the path has
abbrev pub entry_offer : Files → List ℕ → List ℕ → Offer
entry_offer f part entry = offer_at f part (path_of entry)

-- what an entry has decides, or is a portion, or is passed over
abbrev pub by_offer : List ℕ → (List (List ℕ) → Option Found) → List (List ℕ) → Offer → Option Found
by_offer name go portions (offers.Decides kind) = Some (founds.Spec (record { name = name; kind = kind }))
by_offer name go portions (offers.Portion portion) = go (portions ++ portion ∷ [])
by_offer name go portions offers.Nothing = go portions

-- an entry decided, or the search goes on
abbrev pub by_kind : List ℕ → Option SpecKind → Option Found → Option Found
by_kind name (Some kind) rest = Some (founds.Spec (record { name = name; kind = kind }))
by_kind name None rest = rest

-- what is found in entries, with the portions so far
abbrev pub seek : Files → List ℕ → List (List ℕ) → List (List ℕ) → Option Found
seek f name [] portions = answer name [] portions
seek f name (entry ∷ path) portions = by_offer name (seek f name path) portions (entry_offer f (tail_of name) entry)
