-- Reading the front of a bundle line by line.
use Rattle.std.specs.Prelude.{ℕ, ◌+◌, zero, suc, List, [], ◌∷◌, ◌++◌, take, drop, length, Bool, true, not, nat_le, ◌==◌, ◌&&◌, position, Option, Some, None, if◌then◌else◌}
use Rattle.std.specs.List.{list_all, slice_split}
use Rattle.std.specs.Option.{option_map, option_and_then}
use Rattle.std.specs.Ordering.{is_lt}
use Rattle.std.specs.Str.{is_utf8, bytes_eq}
use Rattle.base_types.specs.Path.{Path, path_cmp, is_part}
use Rattle.base_spelling.specs.Numbers.{number_in}
use Rattle.tree_files.specs.Edits.{is_within}
use Rattle.bundle_hook.specs.declared.entry.Entry.{Entry}
use Rattle.bundle_hook.specs.Spelling.{most_files, most_size, first_line, last_line, is_plain}

-- what stands before and behind the first of these bytes
abbrev pub cut_at : ℕ → List ℕ → Option (List ℕ × List ℕ)
cut_at c text = option_map (λ i. (take i text, drop (i + 1) text)) (position (λ b. b == c) text)

-- SIZE: a number that is not too large
abbrev pub size_in : List ℕ → Option ℕ
size_in text = option_and_then (λ n. if nat_le n most_size then Some n else None) (number_in text)

-- what stands between the slashes
abbrev pub parts : List ℕ → Path
parts text = slice_split (λ b. b == 47) text

-- the tree path of at least one part that a text names
abbrev pub named_in : List ℕ → Option Path
named_in text = if list_all is_part (parts text) then Some (parts text) else None

-- the path where it has a part; the root is not named in a bundle
abbrev pub with_parts : Path → Option Path
with_parts [] = None
with_parts (part ∷ path) = Some (part ∷ path)

-- PATH
unfoldable pub path_in : List ℕ → Option Path
path_in text = if is_utf8 text && is_plain text then named_in text else None

-- a size and a path as one entry, where both are there
abbrev pub entry_with : Option ℕ → Option Path → Option Entry
entry_with size path = option_and_then (λ n. option_map (λ p. record { path = p; size = n }) path) size

-- the line of a file, cut at its first blank
unfoldable pub entry_in : List ℕ → Option Entry
entry_in line = option_and_then (λ (p : List ℕ × List ℕ). entry_with (size_in p.0) (path_in p.1)) (cut_at 32 line)

-- what is made of one line: the entries so far and how many bytes stand behind it where it is the last, and else what
-- comes of the entry that it spells
abbrev pub at_line : List Entry → (Entry → List ℕ → Option (List Entry × ℕ)) → List ℕ × List ℕ → Option (List Entry × ℕ)
at_line done further (line, rest) = if bytes_eq line last_line then Some (done, length rest) else option_and_then (λ e. further e rest) (entry_in line)

-- through so many lines at most: the entries, and how many bytes stand behind the last line
unfoldable pub lines_in : ℕ → List Entry → List ℕ → Option (List Entry × ℕ)
lines_in zero done text = None
lines_in (suc n) done text = option_and_then (at_line done (λ e rest. lines_in n (done ++ e ∷ []) rest)) (cut_at 10 text)

-- a path stands before another
abbrev pub is_before : Path → Path → Bool
is_before p q = is_lt (path_cmp p q) && not (is_within p q)

-- each path stands before the next one
abbrev pub ascending : List Entry → Bool
ascending [] = true
ascending (e ∷ []) = true
ascending (e ∷ f ∷ es) = is_before e.path f.path && ascending (f ∷ es)

-- the entries, where each stands before the next one
abbrev pub if_ascending : List Entry × ℕ → Option (List Entry × ℕ)
if_ascending (entries, left) = if ascending entries then Some (entries, left) else None

-- what stands behind the first line, where that is the one of the format
abbrev pub behind_first : List ℕ × List ℕ → Option (List Entry × ℕ)
behind_first (line, rest) = if bytes_eq line first_line then option_and_then if_ascending (lines_in (most_files + 1) [] rest) else None

-- the front of a bundle: the entries, and how many bytes stand behind it
unfoldable pub front_in : List ℕ → Option (List Entry × ℕ)
front_in text = option_and_then behind_first (cut_at 10 text)
