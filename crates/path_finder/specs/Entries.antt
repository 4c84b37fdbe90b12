-- Which entries of a search path count. importlib's PathFinder passes over entries that it cannot use
-- (Language Reference 5.5); here an entry counts only where it is a text, is a tree path, and is a directory.
use Rattle.std.specs.Prelude.{ℕ, ◌==◌, Bool, List, [], length, nat_eq, codes, if◌then◌else◌, Option, Some, None}
use Rattle.std.specs.List.{list_all, slice_split, filter_map}
use Rattle.std.specs.Cmp.Lexicographic.{pointwise}
use Rattle.base_types.specs.Path.{Path, is_part}
use Rattle.py_value.specs.declared.value.Value.{Value, out-Value}
use Rattle.py_value.specs.declared.value.Value.TheOpen.{Value-F}
use Rattle.tree_files.specs.Files.{Files, node_at}
use Rattle.tree_files.specs.declared.tree.Node.{Node}
use Rattle.tree_files.specs.declared.tree.Node.TheVariants.{File, Dir}

-- what stands between the slashes of a text; the empty text and `.` are the root, which has no parts
abbrev pub pieces : List ℕ → Path
pieces text = if length text == 0 then [] else (if pointwise nat_eq text (codes ".") then [] else slice_split (λ b. b == 47) text)

-- the tree path that a text spells, if it is one
unfoldable pub path_of : List ℕ → Option Path
path_of text = if list_all is_part (pieces text) then Some (pieces text) else None

-- only a text is one (`PathFinder._get_spec` of `importlib._bootstrap_external`: "if not isinstance(entry, str)")
abbrev pub text_in : Value-F Value → Option (List ℕ)
text_in (Value-F.Text text) = Some text
text_in _ = None

-- the text that an entry is, if it is one
abbrev pub text_of : Value → Option (List ℕ)
text_of entry = text_in (out-Value entry)

-- where there is no text there is no path
abbrev pub path_by : Option (List ℕ) → Option Path
path_by (Some text) = path_of text
path_by None = None

-- the tree path that an entry is: only a text can be one
abbrev pub entry_path : Value → Option Path
entry_path entry = path_by (text_of entry)

-- a directory is given with its time; a file and what is absent are no directory
abbrev pub timed : Path → Option Node → Option (Path × ℕ)
timed dir (Some (Dir time)) = Some (dir, time)
timed dir (Some (File bytes)) = None
timed dir None = None

-- the directory that stands at the path; where there is no path there is none
abbrev pub directory_at : Files → Option Path → Option (Path × ℕ)
directory_at files (Some dir) = timed dir (node_at files dir)
directory_at files None = None

-- the directory that an entry is, with its time
abbrev pub directory : Files → Value → Option (Path × ℕ)
directory files entry = directory_at files (entry_path entry)

-- the entries that count, in their order
abbrev pub directories : Files → List Value → List (Path × ℕ)
directories files path = filter_map (directory files) path
