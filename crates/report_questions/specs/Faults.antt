-- Why a source has no tree, as a line of a report tells it: the line of what is refused, and the text of the error that
-- its body raises, without that line.
use Rattle.std.specs.Prelude.{ℕ, List, [], ◌++◌, codes}
use Rattle.py_lexer.specs.declared.error.LexError.{LexError}
use Rattle.py_lexer.specs.declared.error.LexError.TheVariants as lex
use Rattle.py_parser.specs.declared.error.ParseError.{ParseError}
use Rattle.py_parser.specs.declared.error.ParseError.TheVariants as error
use Rattle.report_questions.specs.declared.question.Query.TheVariants as query
use Rattle.report_questions.specs.declared.question.Question.{Question}

-- a fault in a line, with its text
abbrev pub fault_at : ℕ → List ℕ → Question
fault_at line text = record { line = line; query = query.Fault text }

-- a source without tokens; one that is too long is refused in its first line. Want of memory is no fault of a source
abbrev pub lexing_fault : LexError → Question
lexing_fault lex.TooLong = fault_at 1 (codes "source is longer than 1048576 bytes")
lexing_fault (lex.NotUtf8 line) = fault_at line (codes "source is not UTF-8")
lexing_fault (lex.BadChar line) = fault_at line (codes "bad character")
lexing_fault (lex.BadNumber line) = fault_at line (codes "number not in the profile")
lexing_fault (lex.NumberTooWide line) = fault_at line (codes "number past 128 bits")
lexing_fault (lex.OpenString line) = fault_at line (codes "string not closed")
lexing_fault (lex.BadEscape line) = fault_at line (codes "bad escape")
lexing_fault (lex.BadDedent line) = fault_at line (codes "bad dedent")
lexing_fault (lex.MixedTabs line) = fault_at line (codes "inconsistent tabs")
lexing_fault lex.NoMemory = fault_at 1 []

-- a source without a tree. Want of memory is no fault of a source
abbrev pub fault_of : ParseError → Question
fault_of (error.Lex e) = lexing_fault e
fault_of (error.Syntax line) = fault_at line (codes "invalid syntax")
fault_of (error.TooDeep line) = fault_at line (codes "too deep")
fault_of (error.Profile line what) = fault_at line (codes "'" ++ what ++ codes "' is not in the profile")
fault_of error.NoMemory = fault_at 1 []
