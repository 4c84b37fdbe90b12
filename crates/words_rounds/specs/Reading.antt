-- Line by line through a rounds file.
use Rattle.std.specs.Prelude.{◌≡◌, ℕ, ◌+◌, List, [], ◌∷◌, ◌++◌, nat_lt, ◌==◌, Option, Some, None, Result, Ok, Err, if◌then◌else◌}
use Rattle.std.specs.List.{slice_split}
use Rattle.std.specs.Option.{option_map, option_and_then, ok_or}
use Rattle.std.specs.Str.{bytes_eq}
use Rattle.tree_files.specs.declared.edit.Edit.{Edit}
use Rattle.words_rounds.specs.Spelling.{first_line}
use Rattle.words_rounds.specs.Lines.{line_in}
use Rattle.words_rounds.specs.declared.line.Line.{Line}
use Rattle.words_rounds.specs.declared.line.Line.TheVariants as lines
use Rattle.words_rounds.specs.declared.draft.Stage.{Stage}
use Rattle.words_rounds.specs.declared.draft.Stage.TheVariants as stages
use Rattle.words_rounds.specs.declared.draft.Draft.{Draft}
use Rattle.words_rounds.specs.declared.rounds.Round.{Round}
use Rattle.words_rounds.specs.declared.rounds.Rounds.{Rounds}
use Rattle.words_rounds.specs.declared.rounds.RoundsError.{RoundsError}
use Rattle.words_rounds.specs.declared.rounds.RoundsError.TheVariants as error

-- nothing has been read, and the first line is to come
abbrev pub start : Draft
start = record { stage = stages.First; done = []; edits = []; scripts = []; count = 0 }

-- the round that is being read, as far as it has come
abbrev pub open_round : Draft → Round
open_round d = record { edits = d.edits; scripts = d.scripts }

-- a further round begins: it needs a script, so at most 15 have stood
abbrev pub with_round : Draft → Option Draft
with_round d = if nat_lt d.count 16 then Some (record { stage = stages.Edits; done = d.done ++ open_round d ∷ []; edits = []; scripts = []; count = d.count }) else None

-- at most 16 scripts stand in the file
abbrev pub with_script : List ℕ → Draft → Option Draft
with_script script d =
    if nat_lt d.count 16 then Some (record { stage = stages.Scripts; done = d.done; edits = d.edits; scripts = d.scripts ++ script ∷ []; count = d.count + 1 }) else None

-- one edit more in the round that is being read; their number has no limit
abbrev pub with_edit : Edit → Draft → Option Draft
with_edit edit d = Some (record d { edits = d.edits ++ edit ∷ [] })

-- the reader goes on at another stage, and nothing else changes
abbrev pub turned : Stage → Draft → Option Draft
turned stage d = Some (record d { stage = stage })

-- a line where no round has begun, where a round has no script yet, and where it has one
abbrev pub at_rounds : Line → Draft → Option Draft
at_rounds lines.Round d = turned stages.Edits d
at_rounds _ d = None

-- a round that has no script yet takes edits and its first script, and no round may follow yet
abbrev pub at_edits : Line → Draft → Option Draft
at_edits lines.Round d = None
at_edits (lines.Edit edit) d = with_edit edit d
at_edits (lines.Script script) d = with_script script d

-- a round that has a script takes further ones, or the next round follows; edits stand before the scripts
abbrev pub at_scripts : Line → Draft → Option Draft
at_scripts lines.Round d = with_round d
at_scripts (lines.Edit edit) d = None
at_scripts (lines.Script script) d = with_script script d

-- what a line that spells something does, by where the reader is; the first line is not read so
abbrev pub further : Stage → Line → Draft → Option Draft
further stages.First line d = None
further stages.Rounds line d = at_rounds line d
further stages.Edits line d = at_edits line d
further stages.Scripts line d = at_scripts line d

-- the first line must be the one of the format, byte for byte
abbrev pub at_first : List ℕ → Draft → Option Draft
at_first line d = if bytes_eq line first_line then turned stages.Rounds d else None

-- the first line is compared with the format's; any other goes by what it spells, and must spell something
abbrev pub next_at : Stage → List ℕ → Draft → Option Draft
next_at stages.First line d = at_first line d
next_at stage line d = option_and_then (λ l. further stage l d) (line_in line)

-- the draft with one line more, if a rounds file goes on with it
abbrev pub next : List ℕ → Draft → Option Draft
next line d = next_at d.stage line d

-- a file may end where its last round has a script
abbrev pub ends_at : Stage → Draft → Option (List Round)
ends_at stages.Scripts d = Some (d.done ++ open_round d ∷ [])
ends_at _ d = None

-- what stands behind the last LF must be nothing
abbrev pub ends : List ℕ → Draft → Option (List Round)
ends [] d = ends_at d.stage d
ends (b ∷ bs) d = None

-- the answer is what the file comes to where this stands behind its last LF: the rounds, or none where it may not end
abbrev pub Ends : Option Rounds → List ℕ → Draft → Type 0
Ends o rest d = option_map (λ rounds. rounds.list) o ≡ ends rest d

-- where no draft is left the line of this number is refused, and else the reading goes on with it
abbrev pub goes : Option Draft → ℕ → (Draft → Result (List Round) ℕ) → Result (List Round) ℕ
goes None at then_ = Err at
goes (Some d) at then_ = then_ d

-- through the lines from number `at` on, and to what stands behind the last LF: the rounds, or the number of the first
-- line at which no rounds file goes on
abbrev pub read_on : ℕ → Draft → List (List ℕ) → Result (List Round) ℕ
read_on at d [] = Err at
read_on at d (line ∷ []) = ok_or (ends line d) at
read_on at d (line ∷ more ∷ lines) = goes (next line d) at (λ e. read_on (at + 1) e (more ∷ lines))

-- what stands between the LFs: the lines, and last what stands behind the last LF
abbrev pub pieces : List ℕ → List (List ℕ)
pieces bytes = slice_split (λ b. b == 10) bytes

-- the whole file is read from its first line, which is number 1
unfoldable pub rounds_in : List ℕ → Result (List Round) ℕ
rounds_in bytes = read_on 1 start (pieces bytes)

-- what `read_rounds` answers, unless memory is wanted, as it is for a line whose number has no room
abbrev pub Reads : Result (List Round) ℕ → Result Rounds RoundsError → Type 0
Reads expected (Ok rounds) = expected ≡ Ok rounds.list
Reads expected (Err (error.At line)) = expected ≡ Err line
Reads expected (Err error.NoMemory) = Unit {0}

-- what is said of the line with this number
abbrev pub Tells : ℕ → RoundsError → Type 0
Tells n (error.At line) = line ≡ n
Tells n error.NoMemory = Unit {0}
