-- How a bundle is spelled. The format is this project's own:
--
--   bundle := "PYB1" LF { SIZE " " PATH LF } "end" LF data
use Rattle.std.specs.Prelude.{◌≡◌, ◌≤◌, ℕ, List, [], ◌∷◌, ◌++◌, length, codes, Bool, true, false, nat_le, ⊤}
use Rattle.std.specs.Fmt.{decimal}
use Rattle.std.specs.List.{list_all, AllByRecursion}
use Rattle.std.specs.declared.cmp.Ordering.TheVariants.{Less}
use Rattle.std.specs.Str.{IsUtf8}
use Rattle.base_types.specs.Path.{Path, path_cmp, IsPath, joined}
use Rattle.tree_files.specs.Edits.{is_within}
use Rattle.bundle_hook.specs.declared.entry.Entry.{Entry}

-- the most files in a bundle
abbrev pub most_files : ℕ
most_files = 4096

-- the most bytes up to and with `end` and its LF
abbrev pub most_front : ℕ
most_front = 1048576

-- the most bytes of one file
abbrev pub most_size : ℕ
most_size = 1099511627776

-- the first line, without its LF: the name of the format and its version
abbrev pub first_line : List ℕ
first_line = codes "PYB1"

-- the line behind those of the files, without its LF
abbrev pub last_line : List ℕ
last_line = codes "end"

-- SIZE " " PATH
abbrev pub line_of : Entry → List ℕ
line_of e = decimal e.size ++ 32 ∷ joined e.path

-- a line for each file, each with its LF
abbrev pub lines_of : List Entry → List ℕ
lines_of [] = []
lines_of (e ∷ es) = line_of e ++ 10 ∷ lines_of es

-- all that stands before the data
abbrev pub front_of : List Entry → List ℕ
front_of es = first_line ++ 10 ∷ (lines_of es ++ (last_line ++ 10 ∷ []))

-- no byte below 20 hexadecimal, so no LF either
abbrev pub is_plain : List ℕ → Bool
is_plain text = list_all (λ b. nat_le 32 b) text

-- SIZE is at most the limit, and PATH a text that names a tree path of at least one part, without bytes below 20
-- hexadecimal
pub record IsEntry (e : Entry) : Type 0 where
  pub size : e.size ≤ most_size
  pub is_path : IsPath e.path
  pub some : 1 ≤ length e.path
  pub text : IsUtf8 (joined e.path)
  pub plain : is_plain (joined e.path) ≡ true

-- a path that stands before another: below it, compared part by part by bytes, and no prefix of it
abbrev pub Before : Path → Path → Type 0
Before p q = (path_cmp p q ≡ Less) × (is_within p q ≡ false)

-- the paths ascend strictly, and none is a prefix of another: a prefix of a path is below it, so it would stand before
-- it
abbrev pub Ascend : List Entry → Type 0
Ascend [] = ⊤
Ascend (e ∷ es) = AllByRecursion (λ f. Before e.path f.path) es × Ascend es
