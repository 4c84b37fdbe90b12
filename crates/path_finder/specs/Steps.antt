-- The steps of one search, as a tree of what it does next: it pays, asks for a kept listing, has one kept, or looks
-- into the tree of files, and goes on by what it learns.
use Rattle.std.specs.Prelude.{◌≡◌, ℕ, ◌==◌, Bool, true, false, List, [], ◌∷◌, ◌++◌, if◌then◌else◌, Option, Some, None}
use Rattle.std.specs.Option.{IfSome}
use Rattle.base_types.specs.Path.{Path, joined}
use Rattle.base_types.specs.declared.path.Listing.{Listing}
use Rattle.spec_core.specs.Names.{tail_of}
use Rattle.py_value.specs.declared.value.Value.{Value}
use Rattle.tree_files.specs.Files.{Files, node_at, stamp_of, has_name, IsListing}
use Rattle.tree_files.specs.declared.tree.Stamp.{Stamp}
use Rattle.tree_files.specs.declared.tree.Stamp.TheVariants as stamp
use Rattle.spec_core.specs.declared.spec.SpecKind.{SpecKind}
use Rattle.path_finder.specs.Entries.{entry_path}
use Rattle.path_finder.specs.Find.{folder, first_file, module_file, with_suffix, package_in, module_in, answer}
use Rattle.path_finder.specs.declared.words.Probe.{Probe}
use Rattle.path_finder.specs.declared.words.Found.{Found}
use Rattle.path_finder.specs.declared.words.Found.TheVariants as found

-- a search from here on: what it does next, and what it is then, by each thing that it may learn
pub data Search : Type 0 where
  -- the search is over
  Ends : (answer : Option Found) → Search
  -- a unit is paid, for a call of the tree or not
  Pays : (of_tree : Bool) (next : Search) → Search
  -- the kept listing of a directory is asked for, and whether the part, and the part with `.py`, are in it
  Asks : (dir : Path) (part : List ℕ) (next : Option Probe → Search) → Search
  -- a listing of a directory is to be kept
  Keeps : (dir : Path) (listing : Listing) (next : Search) → Search
  -- what stands at a path of the tree is looked at
  Stamps : (path : Path) (next : Stamp → Search) → Search
  -- a directory of the tree is listed
  Lists : (dir : Path) (next : List (List ℕ) → Search) → Search

-- what follows an entry: the search in the entries behind it, with the portions so far
abbrev pub Onward : Type 0
Onward = List (List ℕ) → Search

-- whether a directory stands there; a file is none, and neither is what is absent
abbrev pub is_dir_stamp : Stamp → Bool
is_dir_stamp stamp.Absent = false
is_dir_stamp (stamp.File size) = false
is_dir_stamp (stamp.Dir time) = true

-- whether a file stands there; a directory is none, and neither is what is absent
abbrev pub is_file_stamp : Stamp → Bool
is_file_stamp stamp.Absent = false
is_file_stamp (stamp.File size) = true
is_file_stamp (stamp.Dir time) = false

-- the entry does not decide: its portion, if it has one, is kept, and the search goes on behind it
abbrev pub passes : List ℕ → Path → Bool → List (List ℕ) → Onward → Search
passes name dir true portions go = go (portions ++ joined (folder dir (tail_of name)) ∷ [])
passes name dir false portions go = go portions

-- the entry decides: what was found is a module of this kind under the whole name
abbrev pub ends_with : List ℕ → SpecKind → Search
ends_with name kind = Ends (Some (found.Spec (record { name = name; kind = kind })))

-- is the file that is listed a module?
abbrev pub module_tried : List ℕ → Path → Bool → List (List ℕ) → Onward → Bool → Search
module_tried name dir portion portions go true = ends_with name (module_in dir (tail_of name))
module_tried name dir portion portions go false = passes name dir portion portions go

-- the file is looked at where it is listed, and else the entry does not decide
abbrev pub tries_module : List ℕ → Path → Bool → Bool → List (List ℕ) → Onward → Search
tries_module name dir portion true portions go = Stamps (module_file dir (tail_of name)) (λ s. module_tried name dir portion portions go (is_file_stamp s))
tries_module name dir portion false portions go = passes name dir portion portions go

-- is the folder that is listed a regular package?
abbrev pub package_tried : List ℕ → Path → Bool → List (List ℕ) → Onward → Bool → Search
package_tried name dir file portions go true = ends_with name (package_in dir (tail_of name))
package_tried name dir file portions go false = tries_module name dir true file portions go

-- only where the part is a directory is the file of a package looked for, and only then is it a portion
abbrev pub folder_tried : List ℕ → Path → Bool → List (List ℕ) → Onward → Bool → Search
folder_tried name dir file portions go true = Stamps (first_file dir (tail_of name)) (λ s. package_tried name dir file portions go (is_file_stamp s))
folder_tried name dir file portions go false = tries_module name dir false file portions go

-- the names are probed, those alone that are listed
abbrev pub tries : List ℕ → Path → Bool → Bool → List (List ℕ) → Onward → Search
tries name dir true file portions go = Stamps (folder dir (tail_of name)) (λ s. folder_tried name dir file portions go (is_dir_stamp s))
tries name dir false file portions go = tries_module name dir false file portions go

-- one unit is paid for all looks at the names in a directory
abbrev pub probes : List ℕ → Path → Bool → Bool → List (List ℕ) → Onward → Search
probes name dir bare file portions go = Pays true (tries name dir bare file portions go)

-- a directory is listed, and the listing is kept
abbrev pub keeps : List ℕ → Path → ℕ → List (List ℕ) → Onward → List (List ℕ) → Search
keeps name dir time portions go names =
    Keeps dir (record { time = time; names = names }) (probes name dir (has_name names (tail_of name)) (has_name names (with_suffix (tail_of name))) portions go)

-- one unit is paid for listing a directory, of which no listing is kept that may be used
abbrev pub lists : List ℕ → Path → ℕ → List (List ℕ) → Onward → Search
lists name dir time portions go = Pays true (Lists dir (keeps name dir time portions go))

-- a kept listing is used where it has the directory's time
abbrev pub replied : List ℕ → Path → ℕ → List (List ℕ) → Onward → Option Probe → Search
replied name dir time portions go (Some probe) = if probe.time == time then probes name dir probe.bare probe.file portions go else lists name dir time portions go
replied name dir time portions go None = lists name dir time portions go

-- only a directory is searched
abbrev pub stamped : List ℕ → Path → List (List ℕ) → Onward → Stamp → Search
stamped name dir portions go (stamp.Dir time) = Asks dir (tail_of name) (replied name dir time portions go)
stamped name dir portions go (stamp.File size) = go portions
stamped name dir portions go stamp.Absent = go portions

-- an entry that is no text or no tree path is paid for and passed over
abbrev pub enters : List ℕ → Option Path → List (List ℕ) → Onward → Search
enters name (Some dir) portions go = Pays true (Stamps dir (stamped name dir portions go))
enters name None portions go = Pays false (go portions)

-- the search in entries, with the portions so far
abbrev pub searches : List ℕ → List Value → Onward
searches name [] = λ portions. Ends (answer name [] portions)
searches name (entry ∷ path) = λ portions. enters name (entry_path entry) portions (searches name path)

-- ---- what the tree answers

-- by looks into the tree alone, whose answers are those of its files where it tells them, one comes to the other
pub data Reads (files : Option Files) : Search → Search → Type 0 where
  here : (search : Search) → Reads files search search
  stamped_at : (path : Path) (s : Stamp) (next : Stamp → Search) (search : Search) → IfSome files (λ f. s ≡ stamp_of (node_at f path)) → Reads files (next s) search → Reads files (Stamps path next) search
  listed_at : (dir : Path) (names : List (List ℕ)) (next : List (List ℕ) → Search) (search : Search) → IfSome files (λ f. IsListing f dir names) → Reads files (next names) search → Reads files (Lists dir next) search

-- what stands at a path was looked at: the search may go on by it
abbrev pub Shows : Option Files → Path → Stamp → Type 0
Shows files path s = (next : Stamp → Search) (search : Search) → Reads files (next s) search → Reads files (Stamps path next) search

-- over these files, and with these replies to what it asks for, the search comes to this answer
abbrev pub Leads : Files → Search → List (Option Probe) → Option Found → Type 0
Leads files (Ends found) replies answer = (replies ≡ []) × (answer ≡ found)
Leads files (Pays of_tree next) replies answer = Leads files next replies answer
Leads files (Asks dir part next) [] answer = ⊥
Leads files (Asks dir part next) (reply ∷ replies) answer = Leads files (next reply) replies answer
Leads files (Keeps dir listing next) replies answer = Leads files next replies answer
Leads files (Stamps path next) replies answer = Leads files (next (stamp_of (node_at files path))) replies answer
Leads files (Lists dir next) replies answer = (names : List (List ℕ)) × IsListing files dir names × Leads files (next names) replies answer
