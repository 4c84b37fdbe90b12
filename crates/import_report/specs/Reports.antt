-- The report of a folder: the lines of the source files below it, in the order of their paths, compared part by part by
-- bytes; and the folders whose names are listed for it.
use Rattle.std.specs.Prelude.{ℕ, suc, ◌-◌, nat_le, nat_lt, if◌then◌else◌, List, [], ◌∷◌, length, drop, Option, Some, None}
use Rattle.base_types.specs.Path.{Path, joined}
use Rattle.tree_files.specs.Files.{Files}
use Rattle.tree_files.specs.declared.tree.Node.{Node}
use Rattle.tree_files.specs.declared.tree.Node.TheVariants.{File, Dir}
use Rattle.tree_walk.specs.Below.{all_within, most_parts}
use Rattle.import_report.specs.Lines.{file_lines, too_deep}
use Rattle.import_report.specs.declared.line.Line.{Line}
use Rattle.import_report.specs.Sources.{source_of, source_questions}
use Rattle.import_report.specs.declared.sources.Source.{Source}

-- the lines of the source file with these bytes at a path, by what names mean on the search path
abbrev pub source_lines : Files → List (List ℕ) → Path → List ℕ → Option Source → List Line
source_lines f path at bytes (Some source) = file_lines f path (joined at) (source_questions source bytes)
source_lines f path at bytes None = []

-- a folder that lies so many parts below the reported one: one too many is too deep, and those in that are not looked at
abbrev pub deep_lines : ℕ → Path → List Line
deep_lines depth at = if nat_lt most_parts depth then (if nat_le depth (suc most_parts) then too_deep (joined at) ∷ [] else []) else []

-- the lines of a thing of the tree, where the reported folder's path has so many parts: a file is told whose folder lies
-- at most 64 parts below
abbrev pub lines_of : ℕ → Files → List (List ℕ) → Path × Node → List Line
lines_of parts f path (at, File bytes) = if nat_le (length at - parts) (suc most_parts) then source_lines f path at bytes (source_of (drop parts at)) else []
lines_of parts f path (at, Dir time) = deep_lines (length at - parts) at

-- a folder is entered that lies at most 64 parts below
abbrev pub entered : ℕ → Path × Node → List Path
entered parts (at, File bytes) = []
entered parts (at, Dir time) = if nat_le (length at - parts) most_parts then at ∷ [] else []

-- the report of a folder, by what names mean on the search path
abbrev pub report_lines : Files → Path → List (List ℕ) → List Line
report_lines f dir path = all_within (lines_of (length dir) f path) f dir

-- the folders whose names are listed for it, each once
abbrev pub report_folders : Files → Path → List Path
report_folders f dir = all_within (entered (length dir)) f dir
