-- What a walk has still to tell.
use Rattle.std.specs.Prelude.{List}
use Rattle.base_types.specs.Path.{Path}
use Rattle.tree_files.specs.Files.{Files}
use Rattle.import_report.specs.declared.line.Line.{Line}
use Rattle.import_report.specs.Due.{due_lines, due_folders}
use Rattle.import_report.specs.declared.walk.Walk.{Walk}

-- the lines of all parts that are pending
abbrev pub left : Files → Walk → List Line
left f walk = due_lines f walk.path walk.pile

-- the folders that it has still to list
abbrev pub unlisted : Files → Walk → List Path
unlisted f walk = due_folders f walk.pile
