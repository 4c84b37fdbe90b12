-- What a search finds (PEP 420, "Specification"): for a name and each entry of the path,
--   where `<entry>/<name>/__init__.py` is found, a regular package is the answer;
--   where not, but `<entry>/<name>.py` is found, a module is the answer;
--   where not, but `<entry>/<name>` is found and is a directory, it is recorded, and the search goes on.
-- Where no entry answers, and one was recorded, the answer is a namespace package of the recorded directories.
use Rattle.std.specs.Prelude.{ℕ, ◌==◌, ◌&&◌, Bool, true, false, List, [], ◌∷◌, ◌++◌, codes, is_some, if◌then◌else◌, Option, Some, None}
use Rattle.std.specs.List.{filter_map}
use Rattle.base_types.specs.Path.{Path, joined}
use Rattle.spec_core.specs.Names.{tail_of}
use Rattle.spec_core.specs.declared.spec.SpecKind.{SpecKind}
use Rattle.spec_core.specs.declared.spec.SpecKind.TheVariants as kinds
use Rattle.py_value.specs.declared.value.Value.{Value}
use Rattle.tree_files.specs.Files.{Files, node_at, is_dir, is_file}
use Rattle.path_finder.specs.Entries.{directories}
use Rattle.path_finder.specs.declared.words.Probe.{Probe}
use Rattle.path_finder.specs.declared.words.Found.{Found}
use Rattle.path_finder.specs.declared.words.Found.TheVariants as found

-- a name in a directory
abbrev pub below : Path → List ℕ → Path
below dir name = dir ++ name ∷ []

-- where the last part of a name may stand in a directory: as a folder, which is a regular package where it has
-- this file, or as a file
abbrev pub folder : Path → List ℕ → Path
folder dir part = below dir part

-- the file that makes a folder a regular package (Language Reference 5.2.1)
abbrev pub first_file : Path → List ℕ → Path
first_file dir part = below (folder dir part) (codes "__init__.py")

-- the one suffix of source files (`SOURCE_SUFFIXES` of `importlib._bootstrap_external`); others are not looked for
abbrev pub with_suffix : List ℕ → List ℕ
with_suffix part = part ++ codes ".py"

-- the file of a module that is no package
abbrev pub module_file : Path → List ℕ → Path
module_file dir part = below dir (with_suffix part)

-- whether the part, and the part with `.py`, are listed
pub record Listed : Type 0 where
  pub bare : Bool
  pub file : Bool

-- a directory that is listed now
abbrev pub listed_in_tree : Files → Path → List ℕ → Listed
listed_in_tree files dir part = record { bare = is_some (node_at files (folder dir part)); file = is_some (node_at files (module_file dir part)) }

-- what a kept listing says of a directory is believed where it has the time that the directory has, even where the
-- directory has changed since (Language Reference 5.5.1, "the path entry finder cache")
abbrev pub listed : Files → Path × ℕ → List ℕ → Option Probe → Listed
listed files dir part (Some probe) = if probe.time == dir.1 then record { bare = probe.bare; file = probe.file } else listed_in_tree files dir.0 part
listed files dir part None = listed_in_tree files dir.0 part

-- the part is listed, and a directory stands there now
abbrev pub has_folder : Files → Path → List ℕ → Listed → Bool
has_folder files dir part l = l.bare && is_dir (node_at files (folder dir part))

-- such a folder that has the file of a package now, which need not be listed
abbrev pub has_package : Files → Path → List ℕ → Listed → Bool
has_package files dir part l = has_folder files dir part l && is_file (node_at files (first_file dir part))

-- the part with `.py` is listed, and a file stands there now
abbrev pub has_module : Files → Path → List ℕ → Listed → Bool
has_module files dir part l = l.file && is_file (node_at files (module_file dir part))

-- files and portions are written as the entry's text, a slash and the rest, and for the root as the rest alone
abbrev pub package_in : Path → List ℕ → SpecKind
package_in dir part = kinds.Package (joined (first_file dir part)) (joined (folder dir part) ∷ [])

-- a module has its file and no path
abbrev pub module_in : Path → List ℕ → SpecKind
module_in dir part = kinds.Source (joined (module_file dir part))

-- what an entry has for the name: a regular package, else a module; and a portion of a namespace package
pub record Offer : Type 0 where
  pub decides : Option SpecKind
  pub portion : Option (List ℕ)

-- a regular package goes before a module; a folder is a portion in any case, which counts only where no entry decides
abbrev pub offer : Files → Path → List ℕ → Listed → Offer
offer files dir part l = record {
  decides = if has_package files dir part l then Some (package_in dir part) else (if has_module files dir part l then Some (module_in dir part) else None);
  portion = if has_folder files dir part l then Some (joined (folder dir part)) else None;
}

-- what each of the directories has; the replies are those that came for them, in order, and for the rest none came
abbrev pub offers : Files → List ℕ → List (Path × ℕ) → List (Option Probe) → List Offer
offers files part [] replies = []
offers files part (dir ∷ dirs) [] = offer files dir.0 part (listed files dir part None) ∷ offers files part dirs []
offers files part (dir ∷ dirs) (reply ∷ replies) = offer files dir.0 part (listed files dir part reply) ∷ offers files part dirs replies

-- the first of the kinds; with none, all portions where there is one; else nothing
abbrev pub answer : List ℕ → List SpecKind → List (List ℕ) → Option Found
answer name (kind ∷ more) portions = Some (found.Spec (record { name = name; kind = kind }))
answer name [] (portion ∷ more) = Some (found.Portions (portion ∷ more))
answer name [] [] = None

-- what all entries have, those that decide and the portions each in the order of the path
abbrev pub answer_of : List ℕ → List Offer → Option Found
answer_of name all = answer name (filter_map (λ o. o.decides) all) (filter_map (λ o. o.portion) all)

-- Find: the entry of the least index that has a regular package or a module decides, even behind portions; where
-- none has, all portions are found, in order; where there is no portion, nothing is found
abbrev pub find : Files → List ℕ → List Value → List (Option Probe) → Option Found
find files name path replies = answer_of name (offers files (tail_of name) (directories files path) replies)
