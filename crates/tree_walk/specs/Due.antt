-- What a walk has still to take.
use Rattle.std.specs.Prelude.{◌≡◌, ◌≢◌, ◌<◌, ◌+◌, ◌⊎◌, ℕ, Bool, true, false, List, [], ◌∷◌, ◌++◌, drop, Option, Some, None}
use Rattle.std.specs.List.{flat_map}
use Rattle.base_types.specs.Path.{Path}
use Rattle.tree_files.specs.Files.{Files}
use Rattle.tree_files.specs.declared.tree.Node.{Node}
use Rattle.bundle_hook.specs.declared.bundle.Packed.{Packed}
use Rattle.tree_walk.specs.Below.{all_within, file_in, deep_in, files_below, deep_below, bytes_in, most_bytes}
use Rattle.tree_walk.specs.declared.pile.Folder.{Folder}
use Rattle.tree_walk.specs.declared.pile.Walk.{Walk}

-- of the names of a folder, from one on
abbrev pub of_folder : {X : Type 0} → (Path × Node → List X) → Files → Folder → List X
of_folder tell f folder = flat_map (λ name. all_within tell f (folder.dir ++ name ∷ [])) (drop folder.at folder.names)

-- of all folders of a pile, of which the last one comes first
abbrev pub due : {X : Type 0} → (Path × Node → List X) → Files → List Folder → List X
due tell f [] = []
due tell f (folder ∷ pile) = due tell f pile ++ of_folder tell f folder

-- these files and these deep folders were to come before what was due: they have come, or are due now, and no folder is
-- forgotten that lies too deep
pub record Goes (f : Files) (first : List Packed) (folders : List Path) (old new : Walk) : Type 0 where
  pub parts : new.parts ≡ old.parts
  pub files : new.files ++ due (file_in old.parts) f new.pile ≡ old.files ++ (first ++ due (file_in old.parts) f old.pile)
  pub deep : due (deep_in old.parts) f new.pile ≡ folders ++ due (deep_in old.parts) f old.pile
  pub room : new.room + bytes_in new.files ≡ old.room + bytes_in old.files

-- some of these folders lies too deep, or the files have more bytes than may still come
abbrev pub Stops : List Packed → List Path → Walk → Type 0
Stops files deep old = (deep ≢ []) ⊎ (old.room < bytes_in files)

-- what came to be taken was taken, or nothing is to be taken at all
abbrev pub Takes : Files → List Packed → List Path → Walk → Walk → Bool → Type 0
Takes f files deep old new true = Goes f files deep old new
Takes f files deep old new false = Stops files deep old

-- the same of all that stands at a path or below it
abbrev pub TakesAt : Files → Path → Walk → Walk → Bool → Type 0
TakesAt f path old new more = Takes f (all_within (file_in old.parts) f path) (all_within (deep_in old.parts) f path) old new more

-- the same of the names of a folder
abbrev pub TakesFolder : Files → Folder → Walk → Walk → Bool → Type 0
TakesFolder f folder old new more = Takes f (of_folder (file_in old.parts) f folder) (of_folder (deep_in old.parts) f folder) old new more

-- a walk through a folder has come so far
pub record IsUnderWay (f : Files) (dir : Path) (walk : Walk) : Type 0 where
  pub files : walk.files ++ due (file_in walk.parts) f walk.pile ≡ files_below f dir
  pub deep : due (deep_in walk.parts) f walk.pile ≡ deep_below f dir
  pub room : walk.room + bytes_in walk.files ≡ most_bytes
