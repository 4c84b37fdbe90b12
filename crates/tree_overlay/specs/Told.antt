-- The files after edits, where a tree tells its files.
use Rattle.std.specs.Prelude.{List, Option}
use Rattle.std.specs.Option.{option_map}
use Rattle.tree_files.specs.Files.{Files}
use Rattle.tree_files.specs.Edits.{edited}
use Rattle.tree_files.specs.declared.edit.Edit.{Edit}

-- files that are told are told as they are after the edits; where none are told, none are after them
abbrev pub edited_told : List Edit → Option Files → Option Files
edited_told edits told = option_map (λ f. edited f edits) told
