-- What is written of a report.
use Rattle.std.specs.Prelude.{◌≡◌, ℕ, Bool, List, [], ◌∷◌, ◌++◌, flat_map, codes, Option, if◌then◌else◌}
use Rattle.std.specs.List.{list_all}
use Rattle.std.specs.Option.{ForSome}
use Rattle.tree_files.specs.Count.{Rose}
use Rattle.tree_files.specs.Files.{Files}
use Rattle.import_report.specs.declared.line.Line.{Line}
use Rattle.machine_desk.specs.declared.outlet.Flow.{Flow}
use Rattle.machine_desk.specs.declared.outlet.Flow.TheVariants.{Open, Failed, Short}
use Rattle.program_run.specs.Sinks.{At, Gets, status_by}
use Rattle.program_run.specs.Statuses.{normal_end, error_end, tree_fault, sink_fault, want_of_memory}
use Rattle.program_commands.specs.declared.telling.Told.{Told}
use Rattle.program_commands.specs.declared.telling.Told.TheVariants as told

-- a line as it is written, ended by LF
abbrev pub line_text : Line → List ℕ
line_text line = line.text ++ 10 ∷ []

-- lines one after another
abbrev pub text_of : List Line → List ℕ
text_of lines = flat_map line_text lines

-- whether each of the lines is found
abbrev pub are_found : List Line → Bool
are_found lines = list_all (λ line. line.found) lines

-- these are all lines of a report, where the tree tells its files
abbrev pub AreAll : Option Files → (Files → List Line) → List Line → Type 0
AreAll files report lines = ForSome files (λ f. lines ≡ report f)

-- a report begins with these lines, where the tree tells its files
abbrev pub AreFirst : Option Files → (Files → List Line) → List Line → Type 0
AreFirst files report lines = ForSome files (λ f. (rest : List Line) × (lines ++ rest ≡ report f))

-- what was written of a report, by what became of it: all its lines; or its first lines up to a call of the tree that
-- failed, which the tree has counted; or a beginning of its first lines up to a write that failed, which the sink has
-- counted, or as far as there was memory
abbrev pub Tells : Option Files → (Files → List Line) → ℕ → ℕ → At → At → Told → Type 0
Tells files report faults faults' old new (told.All found) =
    (lines : List Line) × AreAll files report lines × Gets old (text_of lines) new Open × (found ≡ are_found lines)
Tells files report faults faults' old new told.Unread =
    (lines : List Line) × AreFirst files report lines × Gets old (text_of lines) new Open × Rose faults faults'
Tells files report faults faults' old new told.Cut =
    (lines : List Line) × AreFirst files report lines × Gets old (text_of lines) new Failed
Tells files report faults faults' old new told.Short =
    (lines : List Line) × AreFirst files report lines × Gets old (text_of lines) new Short

-- the line about a call of the tree that failed
abbrev pub fault_line : List ℕ
fault_line = codes "pyimport: file fault" ++ 10 ∷ []

-- the status where all lines are told, by whether each is found
abbrev pub found_status : Bool → ℕ
found_status found = if found then normal_end else error_end

-- the status of a report by what became of it, and what standard error gets then
abbrev pub Ends : Told → At → At → ℕ → Type 0
Ends (told.All found) old new status = (new ≡ old) × (status ≡ found_status found)
Ends told.Unread old new status =
    (flow : Flow) × Gets old fault_line new flow × (status ≡ status_by tree_fault sink_fault Open flow)
Ends told.Cut old new status = (new ≡ old) × (status ≡ sink_fault)
Ends told.Short old new status = (new ≡ old) × (status ≡ want_of_memory)
