-- What a search finds has the name that was searched.
use Rattle.std.proofs.Common.{◌≡◌, ℕ, ◌==◌, Bool, true, false, List, [], ◌∷◌, if◌then◌else◌, Option, Some, None, refl}
use Rattle.base_types.specs.Path.{Path}
use Rattle.py_value.specs.declared.value.Value.{Value}
use Rattle.spec_core.specs.Names.{tail_of}
use Rattle.tree_files.specs.Files.{has_name}
use Rattle.tree_files.specs.declared.tree.Stamp.{Stamp}
use Rattle.tree_files.specs.declared.tree.Stamp.TheVariants as stamp
use Rattle.path_finder.specs.Entries.{entry_path}
use Rattle.path_finder.specs.Find.{with_suffix, answer}
use Rattle.path_finder.specs.Steps.{Search, Onward, passes, module_tried, tries_module, package_tried, folder_tried, tries, probes, lists, replied, stamped, enters, searches, is_dir_stamp, is_file_stamp}
use Rattle.path_finder.specs.Steps as search
use Rattle.path_finder.specs.declared.words.Probe.{Probe}
use Rattle.meaning_script.specs.Searches.{IsNamed}

-- whatever the tree and the replies are, the answer of the search has the name
abbrev pub AllNamed : List ℕ → Search → Type 0
AllNamed name (search.Ends it) = IsNamed name it
AllNamed name (search.Pays of_tree next) = AllNamed name next
AllNamed name (search.Asks dir part next) = (reply : Option Probe) → AllNamed name (next reply)
AllNamed name (search.Keeps dir listing next) = AllNamed name next
AllNamed name (search.Stamps path next) = (s : Stamp) → AllNamed name (next s)
AllNamed name (search.Lists dir next) = (names : List (List ℕ)) → AllNamed name (next names)

-- ---- a search for a name answers by that name

module _ (name : List ℕ) where
  abbrev NamedOn : Onward → Type 0
  NamedOn go = (portions : List (List ℕ)) → AllNamed name (go portions)

  passes_named : (dir : Path) (portion : Bool) (portions : List (List ℕ)) (go : Onward) → NamedOn go → AllNamed name (passes name dir portion portions go)
  passes_named dir true portions go all = all _
  passes_named dir false portions go all = all _

  module_named : (dir : Path) (portion : Bool) (portions : List (List ℕ)) (go : Onward) (is : Bool) → NamedOn go → AllNamed name (module_tried name dir portion portions go is)
  module_named dir portion portions go true all = refl
  module_named dir portion portions go false all = passes_named dir portion portions go all

  tries_module_named : (dir : Path) (portion file : Bool) (portions : List (List ℕ)) (go : Onward) → NamedOn go → AllNamed name (tries_module name dir portion file portions go)
  tries_module_named dir portion true portions go all = λ s. module_named dir portion portions go (is_file_stamp s) all
  tries_module_named dir portion false portions go all = passes_named dir portion portions go all

  package_named : (dir : Path) (file : Bool) (portions : List (List ℕ)) (go : Onward) (is : Bool) → NamedOn go → AllNamed name (package_tried name dir file portions go is)
  package_named dir file portions go true all = refl
  package_named dir file portions go false all = tries_module_named dir true file portions go all

  folder_named : (dir : Path) (file : Bool) (portions : List (List ℕ)) (go : Onward) (is : Bool) → NamedOn go → AllNamed name (folder_tried name dir file portions go is)
  folder_named dir file portions go true all = λ s. package_named dir file portions go (is_file_stamp s) all
  folder_named dir file portions go false all = tries_module_named dir false file portions go all

  tries_named : (dir : Path) (bare file : Bool) (portions : List (List ℕ)) (go : Onward) → NamedOn go → AllNamed name (tries name dir bare file portions go)
  tries_named dir true file portions go all = λ s. folder_named dir file portions go (is_dir_stamp s) all
  tries_named dir false file portions go all = tries_module_named dir false file portions go all

  lists_named : (dir : Path) (time : ℕ) (portions : List (List ℕ)) (go : Onward) → NamedOn go → AllNamed name (lists name dir time portions go)
  lists_named dir time portions go all = λ names. tries_named dir (has_name names (tail_of name)) (has_name names (with_suffix (tail_of name))) portions go all

  probed_named : (dir : Path) (time : ℕ) (portions : List (List ℕ)) (go : Onward) (bare file fresh : Bool) → NamedOn go
      → AllNamed name (if fresh then probes name dir bare file portions go else lists name dir time portions go)
  probed_named dir time portions go bare file true all = tries_named dir bare file portions go all
  probed_named dir time portions go bare file false all = lists_named dir time portions go all

  replied_named : (dir : Path) (time : ℕ) (portions : List (List ℕ)) (go : Onward) (reply : Option Probe) → NamedOn go → AllNamed name (replied name dir time portions go reply)
  replied_named dir time portions go (Some probe) all = probed_named dir time portions go probe.bare probe.file (probe.time == time) all
  replied_named dir time portions go None all = lists_named dir time portions go all

  stamped_named : (dir : Path) (portions : List (List ℕ)) (go : Onward) (s : Stamp) → NamedOn go → AllNamed name (stamped name dir portions go s)
  stamped_named dir portions go (stamp.Dir time) all = λ reply. replied_named dir time portions go reply all
  stamped_named dir portions go (stamp.File size) all = all _
  stamped_named dir portions go stamp.Absent all = all _

  enters_named : (path : Option Path) (portions : List (List ℕ)) (go : Onward) → NamedOn go → AllNamed name (enters name path portions go)
  enters_named (Some dir) portions go all = λ s. stamped_named dir portions go s all
  enters_named None portions go all = all _

  portions_named : (portions : List (List ℕ)) → IsNamed name (answer name [] portions)
  portions_named [] = tt
  portions_named (portion ∷ more) = tt

  pub searches_named : (path : List Value) (portions : List (List ℕ)) → AllNamed name (searches name path portions)
  searches_named [] portions = portions_named portions
  searches_named (entry ∷ path) portions = enters_named (entry_path entry) portions (searches name path) (searches_named path)
