-- What is still to be told of a report.
use Rattle.std.specs.Prelude.{◌≡◌, ◌≤◌, ◌+◌, ℕ, List, [], ◌∷◌, ◌++◌, length, flat_map, drop, Option, Some, None}
use Rattle.base_types.specs.Path.{Path}
use Rattle.tree_files.specs.Files.{Files}
use Rattle.tree_files.specs.declared.tree.Node.{Node}
use Rattle.tree_walk.specs.Below.{all_within}
use Rattle.import_report.specs.Lines.{file_lines}
use Rattle.import_report.specs.declared.line.Line.{Line}
use Rattle.import_report.specs.Reports.{lines_of, entered}
use Rattle.import_report.specs.declared.pending.Asked.{Asked}
use Rattle.import_report.specs.declared.pending.Pending.{Pending}
use Rattle.import_report.specs.declared.pending.Pending.TheVariants as pending

-- of one part, by what is told of a thing, where the reported folder's path has so many parts, and of questions
abbrev pub of_part : {X : Type 0} → (ℕ → Path × Node → List X) → (Asked → List X) → Files → Pending → List X
of_part tell answer f (pending.Place place) = all_within (tell place.above) f place.path
of_part tell answer f (pending.Folder folder) = flat_map (λ name. all_within (tell folder.above) f (folder.dir ++ name ∷ [])) (drop folder.at folder.names)
of_part tell answer f (pending.Asked asked) = answer asked

-- of all parts of a pile, of which the last one comes first
abbrev pub of_pile : {X : Type 0} → (ℕ → Path × Node → List X) → (Asked → List X) → Files → List Pending → List X
of_pile tell answer f [] = []
of_pile tell answer f (part ∷ pile) = of_pile tell answer f pile ++ of_part tell answer f part

-- the lines of questions, from one on
abbrev pub asked_lines : Files → List (List ℕ) → Asked → List Line
asked_lines f path asked = file_lines f path asked.file (drop asked.at asked.questions)

-- the lines of one part, and of all parts of a pile
abbrev pub part_lines : Files → List (List ℕ) → Pending → List Line
part_lines f path part = of_part (λ parts. lines_of parts f path) (asked_lines f path) f part

abbrev pub due_lines : Files → List (List ℕ) → List Pending → List Line
due_lines f path pile = of_pile (λ parts. lines_of parts f path) (asked_lines f path) f pile

-- the folders that are still to be listed for them; no folder is listed for questions
abbrev pub part_folders : Files → Pending → List Path
part_folders f part = of_part entered (λ asked. []) f part

abbrev pub due_folders : Files → List Pending → List Path
due_folders f pile = of_pile entered (λ asked. []) f pile

-- a line that may have been told
abbrev pub given : Option Line → List Line
given (Some line) = line ∷ []
given None = []

-- the lines that were due before those of a pile are the line that was told, and are due now
abbrev pub Tells : Files → List (List ℕ) → List Line → List Pending → Option Line → List Pending → Type 0
Tells f path first old line new = first ++ due_lines f path old ≡ given line ++ due_lines f path new

-- of the folders that were due some have gone, and the tree has counted no more lists
pub record Lists (due left : List Path) (old new : ℕ) : Type 0 where
  pub gone : List Path
  pub rest : due ≡ gone ++ left
  pub count : new ≤ old + length gone
