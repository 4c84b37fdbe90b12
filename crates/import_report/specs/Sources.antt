-- The sources of a folder.
use Rattle.std.specs.Prelude.{ℕ, Bool, if◌then◌else◌, List, [], ◌∷◌, eqb, codes, Option, Some, None}
use Rattle.std.specs.List.{ends_with}
use Rattle.base_types.specs.Path.{Path}
use Rattle.report_questions.specs.Modules.{package_of_file}
use Rattle.report_questions.specs.Sources.{questions}
use Rattle.report_questions.specs.declared.question.Question.{Question}
use Rattle.import_report.specs.declared.sources.Source.{Source}

-- a source file, by its name
abbrev pub is_source : List ℕ → Bool
is_source name = ends_with eqb name (codes ".py")

-- the same file, seen from one folder further out; the last part is its name
abbrev pub seen_from : List ℕ → Option Source → Source
seen_from part None = record { folders = []; name = part }
seen_from part (Some source) = record { folders = part ∷ source.folders; name = source.name }

-- the file that a path below the reported folder names: the last part in the folders before it
abbrev pub file_of : Path → Option Source
file_of [] = None
file_of (part ∷ path) = Some (seen_from part (file_of path))

-- it, where it is a source
abbrev pub only_source : Option Source → Option Source
only_source None = None
only_source (Some source) = if is_source source.name then Some source else None

-- the source file that the path names
abbrev pub source_of : Path → Option Source
source_of path = only_source (file_of path)

-- what a source file with these bytes asks, as the module that it is by its place in the folder
abbrev pub source_questions : Source → List ℕ → List Question
source_questions source bytes = questions (package_of_file source.folders source.name) bytes
