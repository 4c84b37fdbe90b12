-- What one line of a rounds file spells.
use Rattle.std.specs.Prelude.{ℕ, ◌+◌, List, [], ◌∷◌, take, drop, length, codes, Bool, not, ◌==◌, ◌&&◌, position, Option, Some, None, is_some, if◌then◌else◌}
use Rattle.std.specs.List.{list_all, slice_split}
use Rattle.std.specs.Option.{option_map, option_and_then}
use Rattle.std.specs.Str.{is_utf8, bytes_eq}
use Rattle.base_types.specs.Path.{Path, is_part}
use Rattle.base_spelling.specs.Numbers.{number_in}
use Rattle.base_spelling.specs.Read.{source_in}
use Rattle.tree_files.specs.declared.edit.Edit.{Edit}
use Rattle.tree_files.specs.declared.edit.Edit.TheVariants as edits
use Rattle.words_rounds.specs.declared.line.Line.{Line}
use Rattle.words_rounds.specs.declared.line.Line.TheVariants as lines

-- what stands behind this beginning
abbrev pub behind : List ℕ → List ℕ → Option (List ℕ)
behind front text = if bytes_eq (take (length front) text) front then Some (drop (length front) text) else None

-- what stands before and behind the first blank
abbrev pub cut : List ℕ → Option (List ℕ × List ℕ)
cut text = option_map (λ i. (take i text, drop (i + 1) text)) (position (λ b. b == 32) text)

-- what stands between the slashes
abbrev pub parts : List ℕ → Path
parts text = slice_split (λ b. b == 47) text

-- a blank is the space (32) alone; a tab may stand in a path
abbrev pub has_no_blank : List ℕ → Bool
has_no_blank text = list_all (λ b. not (b == 32)) text

-- the tree path of at least one part that a text names
abbrev pub named_in : List ℕ → Option Path
named_in text = if list_all is_part (parts text) then Some (parts text) else None

-- the tree path of at least one part, without a blank
unfoldable pub path_in : List ℕ → Option Path
path_in text = if is_utf8 text && has_no_blank text then named_in text else None

-- the path where it has a part; the root is not named in a rounds file
abbrev pub with_parts : Path → Option Path
with_parts [] = None
with_parts (part ∷ path) = Some (part ∷ path)

-- a `file` edit, of what stands before and behind the blank: the path, and a source for the file's bytes
abbrev pub file_at : List ℕ × List ℕ → Option Edit
file_at p = option_and_then (λ path. option_map (λ bytes. edits.File path bytes) (source_in p.1)) (path_in p.0)

-- a `dir` edit, of what stands before and behind the blank: the path, and a number for the directory's time
abbrev pub dir_at : List ℕ × List ℕ → Option Edit
dir_at p = option_and_then (λ path. option_map (λ time. edits.Dir path time) (number_in p.1)) (path_in p.0)

-- the rest of a `file` line is cut at its first blank; one without a blank spells no edit
abbrev pub file_in : List ℕ → Option Edit
file_in rest = option_and_then file_at (cut rest)

-- the rest of a `dir` line, cut in the same way
abbrev pub dir_in : List ℕ → Option Edit
dir_in rest = option_and_then dir_at (cut rest)

-- the rest of a `remove` line is a path and nothing else
abbrev pub remove_in : List ℕ → Option Edit
remove_in rest = option_map edits.Remove (path_in rest)

-- what is made of the rest of a line that begins so, and else the other
abbrev pub taken : {X : Type 0} → Option (List ℕ) → (List ℕ → Option X) → Option X → Option X
taken None f other = other
taken (Some rest) f other = f rest

-- the word that a line begins with says which edit it is; another word is none
unfoldable pub edit_in : List ℕ → Option Edit
edit_in line = taken (behind (codes "file ") line) file_in (taken (behind (codes "dir ") line) dir_in (taken (behind (codes "remove ") line) remove_in None))

-- the rest of a `script` line is a path, which is kept as its text
abbrev pub script_in : List ℕ → Option Line
script_in rest = if is_some (path_in rest) then Some (lines.Script rest) else None

-- a line is `round` and nothing else, or a script, or an edit
unfoldable pub line_in : List ℕ → Option Line
line_in line = if bytes_eq line (codes "round") then Some lines.Round else taken (behind (codes "script ") line) script_in (option_map lines.Edit (edit_in line))
