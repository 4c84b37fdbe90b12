-- What a source gives, as a function of its bytes. That it is what `Parses` says is a law of the crate.
use Rattle.std.specs.Prelude.{ℕ, ◌-◌, List, length, take, Option, Some, None, Ok, Err}
use Rattle.std.specs.List.{slice_get}
use Rattle.source_combinators.specs.declared.fault.Fault.{Fault}
use Rattle.source_combinators.specs.Reading.{Read}
use Rattle.py_lexer.specs.Source.{Answer as Lexed}
use Rattle.py_lexer.specs.SourceReading.{source}
use Rattle.py_lexer.specs.declared.word.Token.{Token}
use Rattle.py_parser.specs.Words.{lexemes_of}
use Rattle.py_syntax.specs.declared.lexeme.Lexeme.{Lexeme}
use Rattle.py_syntax.specs.declared.stmt.Script.{Script}
use Rattle.source_spec_statements.specs.Reading.{script}
use Rattle.py_parser.specs.declared.error.ParseError.TheVariants as error
use Rattle.py_parser.specs.Kinds.{refusal_of}
use Rattle.py_parser.specs.Places.{inside_finally}
use Rattle.py_parser.specs.Parses.{Answer}

-- the refusal of the token with so many others before it; there always is one
abbrev pub refused_token : List Token → Fault → Option Token → Answer
refused_token ts fault None = Err (error.Syntax 1)
refused_token ts fault (Some t) = Err (refusal_of fault.kind (inside_finally (lexemes_of (take (length ts - fault.left) ts))) t)

-- the script that was read, or the refusal of the token that reading stopped at
abbrev pub read_by : List Token → Read Lexeme Script → Answer
read_by ts (Ok x) = Ok x.0
read_by ts (Err fault) = refused_token ts fault (slice_get ts (length ts - fault.left))

-- what tokens give, at most 64 levels being open
unfoldable pub read : List Token → Answer
read ts = read_by ts (script 64 (lexemes_of ts))

-- a source without tokens is refused as Lex, with the lexer's own reason
abbrev pub parsed_by : Lexed → Answer
parsed_by (Ok ts) = read ts
parsed_by (Err e) = Err (error.Lex e)

-- the tree of a source, or why it has none
unfoldable pub parsed : List ℕ → Answer
parsed src = parsed_by (source src)
