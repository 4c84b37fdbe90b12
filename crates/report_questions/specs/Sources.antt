-- The questions of a source.
use Rattle.std.specs.Prelude.{◌≡◌, ℕ, List, [], ◌∷◌, Option, Result, Ok, Err, IfOk}
use Rattle.base_types.specs.declared.no_memory.NoMemory.{NoMemory}
use Rattle.py_lexer.specs.Source.{Answer as Lexed}
use Rattle.py_lexer.specs.SourceReading.{source}
use Rattle.py_parser.specs.declared.error.ParseError.{ParseError}
use Rattle.py_parser.specs.declared.error.ParseError.TheVariants as error
use Rattle.py_parser.specs.Parses.{Answer as Parsed}
use Rattle.py_parser.specs.Parsed.{parsed}
use Rattle.report_questions.specs.SourceImports.{imports_of}
use Rattle.report_questions.specs.Faults.{fault_of}
use Rattle.report_questions.specs.Questions.{questions_of}
use Rattle.report_questions.specs.declared.question.Question.{Question}

-- a source that has a tree has tokens, and asks what its import statements ask; any other has its fault alone
abbrev pub questions_by : Option (List ℕ) → Parsed → Lexed → List Question
questions_by home (Ok script) (Ok ts) = questions_of home (imports_of script ts)
questions_by home (Ok script) (Err e) = fault_of (error.Lex e) ∷ []
questions_by home (Err e) lexed = fault_of e ∷ []

-- what a source asks in a module of this package
abbrev pub questions : Option (List ℕ) → List ℕ → List Question
questions home src = questions_by home (parsed src) (source src)

-- the fault is told, but where memory is wanted
abbrev pub Faulted : ParseError → Result (List Question) NoMemory → Type 0
Faulted error.NoMemory result = IfOk result (λ _. ⊥)
Faulted e result = IfOk result (λ all. all ≡ fault_of e ∷ [])
