-- The lines of a report: each question of a source with its answer, by what names mean on a search path.
use Rattle.std.specs.Prelude.{ℕ, Bool, true, false, ◌&&◌, if◌then◌else◌, List, [], ◌++◌, map, codes, Option, Some, None}
use Rattle.std.specs.Fmt.{decimal}
use Rattle.py_value.specs.declared.operator.Applied.{Applied}
use Rattle.py_value.specs.declared.operator.Applied.TheVariants as applied
use Rattle.py_value.specs.declared.value.Value.TheVariants as values
use Rattle.spec_core.specs.Names.{joined}
use Rattle.tree_files.specs.Files.{Files}
use Rattle.path_finder.specs.Entries.{text_of}
use Rattle.value_texts.specs.Texts.{repr_of}
use Rattle.import_report.specs.Meanings.{entries, meaning_of}
use Rattle.import_report.specs.declared.meaning.Meaning.{Meaning}
use Rattle.import_report.specs.declared.meaning.Meaning.TheVariants as meaning
use Rattle.report_questions.specs.declared.question.Query.{Query}
use Rattle.report_questions.specs.declared.question.Query.TheVariants as query
use Rattle.report_questions.specs.declared.question.Question.{Question}
use Rattle.import_report.specs.declared.line.Line.{Line}

-- ---- what names mean

-- the name is found
abbrev pub is_found : Meaning → Bool
is_found (meaning.Missing name) = false
is_found (meaning.NotPackage name) = false
is_found m = true

-- the name may have submodules
abbrev pub is_package : Meaning → Bool
is_package (meaning.Package file path) = true
is_package (meaning.Namespace portions) = true
is_package m = false

-- a text, or none
abbrev pub text_or_empty : Option (List ℕ) → List ℕ
text_or_empty (Some text) = text
text_or_empty None = []

-- the text that an operator gives; where it refuses, that of the refusal
abbrev pub applied_text : Applied → List ℕ
applied_text (applied.Value value) = text_or_empty (text_of value)
applied_text (applied.Raised error) = error.text

-- the list of portions as `repr` writes it
abbrev pub portions_text : List (List ℕ) → List ℕ
portions_text portions = applied_text (repr_of (values.List (entries portions)))

-- a meaning as it is written
abbrev pub meaning_text : Meaning → List ℕ
meaning_text meaning.Builtin = codes "builtin"
meaning_text (meaning.Module file) = file
meaning_text (meaning.Package file path) = codes "package " ++ file
meaning_text (meaning.Namespace portions) = codes "namespace " ++ portions_text portions
meaning_text (meaning.Missing name) = codes "missing " ++ name
meaning_text (meaning.NotPackage name) = codes "not a package " ++ name

-- ---- answers

-- what is asked for, and what it means
abbrev pub told : List ℕ → Meaning → Line
told what m = record { text = what ++ codes " -> " ++ meaning_text m; found = is_found m }

-- a name of a module, which is found where the module is: what stands in the module is not looked at
abbrev pub name_in : List ℕ → Meaning → Line
name_in what m = record { text = what ++ codes " -> name in " ++ meaning_text m; found = true }

-- a relative name that means nothing
abbrev pub refused : List ℕ → List ℕ → Line
refused what why = record { text = what ++ codes " -> " ++ why; found = false }

-- of a package or a namespace a name is its submodule, where that is found; of any other module that is found, and
-- where there is no such submodule, a name in it; where the module is not found that is told
abbrev pub chosen : List ℕ → Meaning → Meaning → Line
chosen what m member = if is_package m && is_found member then told what member else (if is_found m then name_in what m else told what m)

-- an imported name, or one of whose names all are imported
abbrev pub name_line : Files → List (List ℕ) → List ℕ → List ℕ → Line
name_line f path what name = told what (meaning_of f path name)

-- a name that is imported from a module
abbrev pub member_line : Files → List (List ℕ) → List ℕ → List ℕ → Line
member_line f path from name = chosen (from ++ codes ":" ++ name) (meaning_of f path from) (meaning_of f path (joined from name))

-- the answer to each question
abbrev pub query_line : Files → List (List ℕ) → Query → Line
query_line f path (query.Module name) = name_line f path name name
query_line f path (query.All from) = name_line f path (from ++ codes ":" ++ codes "*") from
query_line f path (query.Member from name) = member_line f path from name
query_line f path (query.NoParent what) = refused what (codes "no parent package")
query_line f path (query.BeyondTop what) = refused what (codes "beyond top-level package")
query_line f path (query.Fault text) = record { text = text; found = false }

-- ---- lines

-- a line's number, between its file and its text
abbrev pub line_mark : ℕ → List ℕ
line_mark line = codes ":" ++ decimal line ++ codes ": "

-- an answer behind its file and line
abbrev pub placed : List ℕ → ℕ → Line → Line
placed file line answer = record { text = (file ++ line_mark line) ++ answer.text; found = answer.found }

-- the line of a question of a file
abbrev pub question_line : Files → List (List ℕ) → List ℕ → Question → Line
question_line f path file question = placed file question.line (query_line f path question.query)

-- the lines of all questions of a file
abbrev pub file_lines : Files → List (List ℕ) → List ℕ → List Question → List Line
file_lines f path file questions = map (question_line f path file) questions

-- the line of a folder that is too deep to be entered
abbrev pub too_deep : List ℕ → Line
too_deep folder = record { text = folder ++ codes ": too deep"; found = false }
