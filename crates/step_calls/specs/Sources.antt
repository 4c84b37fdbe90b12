-- What each source comes to. One that does not parse raises an error, with the line of what is refused.
use Rattle.std.specs.Prelude.{ℕ, List, [], ◌++◌, codes, Ok, Err}
use Rattle.std.specs.Fmt.{decimal}
use Rattle.py_value.specs.declared.kind.Kind.TheVariants as kinds
use Rattle.py_value.specs.declared.value.Raised.{Raised}
use Rattle.meaning_state.specs.Faults.{raised}
use Rattle.py_lexer.specs.declared.error.LexError.{LexError}
use Rattle.py_lexer.specs.declared.error.LexError.TheVariants as lex
use Rattle.py_parser.specs.declared.error.ParseError.{ParseError}
use Rattle.py_parser.specs.declared.error.ParseError.TheVariants as error
use Rattle.py_parser.specs.Parses.{Answer}
use Rattle.py_parser.specs.Parsed.{parsed}
use Rattle.meaning_state.specs.declared.thread.Parsing.{Parsing}
use Rattle.meaning_state.specs.declared.thread.Parsing.TheVariants.{Parsed, Faulty}
use Rattle.meaning_script.specs.Meaning.{World}

-- what is wrong in a line
abbrev pub in_line : ℕ → List ℕ → List ℕ
in_line line text = codes "line " ++ decimal line ++ codes ": " ++ text

-- a SyntaxError of a line: its text begins with that line
abbrev pub syntax_error : ℕ → List ℕ → Raised
syntax_error line text = raised kinds.SyntaxError (in_line line text)

-- a source has no tokens
abbrev pub lexing_error : LexError → Raised
lexing_error lex.TooLong = raised kinds.SyntaxError (codes "source is longer than 1048576 bytes")
lexing_error (lex.NotUtf8 line) = syntax_error line (codes "source is not UTF-8")
lexing_error (lex.BadChar line) = syntax_error line (codes "bad character")
lexing_error (lex.BadNumber line) = syntax_error line (codes "number not in the profile")
lexing_error (lex.NumberTooWide line) = raised kinds.ProfileError (codes "number past 128 bits")
lexing_error (lex.OpenString line) = syntax_error line (codes "string not closed")
lexing_error (lex.BadEscape line) = syntax_error line (codes "bad escape")
lexing_error (lex.BadDedent line) = syntax_error line (codes "bad dedent")
lexing_error (lex.MixedTabs line) = syntax_error line (codes "inconsistent tabs")
lexing_error lex.NoMemory = raised kinds.SyntaxError []

-- a source has no tree. Want of memory is never what a text comes to
abbrev pub parsing_error : ParseError → Raised
parsing_error (error.Lex e) = lexing_error e
parsing_error (error.Syntax line) = syntax_error line (codes "invalid syntax")
parsing_error (error.TooDeep line) = syntax_error line (codes "too deep")
parsing_error (error.Profile line what) =
    raised kinds.ProfileError (in_line line (codes "'" ++ what ++ codes "' is not in the profile"))
parsing_error error.NoMemory = raised kinds.SyntaxError []

-- a source that has a tree comes to its script; any other comes to the error that its body raises
abbrev pub parsing_of : Answer → Parsing
parsing_of (Ok script) = Parsed script
parsing_of (Err e) = Faulty (parsing_error e)

-- the world of the language itself: each text comes to what its own parse answers
unfoldable pub sources : World
sources text = parsing_of (parsed text)
