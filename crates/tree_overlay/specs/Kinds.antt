-- Paths of which edits alone say that no file, or no directory, stands there.
use Rattle.std.specs.Prelude.{◌≡◌, ◌==◌, Bool, not, false, IsTrue, List, length}
use Rattle.std.specs.List.{list_all}
use Rattle.base_types.specs.Path.{Path}
use Rattle.tree_files.specs.Files.{Files, node_at, is_dir, is_file}
use Rattle.tree_files.specs.Edits.{edited}
use Rattle.tree_files.specs.declared.edit.Edit.{Edit}
use Rattle.tree_overlay.specs.Names.{path_of}

-- the edit's path has at least one part
abbrev pub is_below_root : Edit → Bool
is_below_root e = not (length (path_of e) == 0)

-- each edit's path has at least one part
abbrev pub IsBelowRoot : List Edit → Type 0
IsBelowRoot edits = IsTrue (list_all is_below_root edits)

-- whatever the files were, no file stands there after the edits
abbrev pub IsNoFile : List Edit → Path → Type 0
IsNoFile edits path = (f : Files) → is_file (node_at (edited f edits) path) ≡ false

-- whatever the files were, no directory stands there after the edits
abbrev pub IsNoDir : List Edit → Path → Type 0
IsNoDir edits path = (f : Files) → is_dir (node_at (edited f edits) path) ≡ false
