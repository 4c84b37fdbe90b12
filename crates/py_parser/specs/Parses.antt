-- What a source gives: its tree, or why it has none.
use Rattle.std.specs.Prelude.{◌≡◌, ℕ, suc, List, [], ◌∷◌, ◌++◌, length, Result, Ok, Err}
use Rattle.source_combinators.specs.declared.fault.Fault.{Fault}
use Rattle.source_combinators.specs.Refusals.{IsFirstRefused}
use Rattle.py_lexer.specs.declared.error.LexError.{LexError}
use Rattle.py_lexer.specs.declared.word.Tok.TheVariants.{End}
use Rattle.py_lexer.specs.declared.word.Token.{Token}
use Rattle.py_lexer.specs.Source.{Tokens}
use Rattle.py_parser.specs.Words.{lexemes_of}
use Rattle.py_syntax.specs.declared.stmt.Script.{Script}
use Rattle.py_syntax.specs.Grammar.{Spells}
use Rattle.py_parser.specs.declared.error.ParseError.{ParseError}
use Rattle.py_parser.specs.declared.error.ParseError.TheVariants as error
use Rattle.py_parser.specs.Kinds.{refusal_of}
use Rattle.py_parser.specs.Places.{inside_finally}

-- the tree, or why there is none
abbrev pub Answer : Type 0
Answer = Result Script ParseError

-- What tokens give. At most 64 levels are open.
pub data Reads (ts : List Token) : Answer → Type 0 where
  -- they spell this script
  spelled : {script : Script} → Spells 64 (lexemes_of ts) script → Reads ts (Ok script)
  -- a token is the first one that no script has after those before it
  refused : (front rest : List Token) (t : Token) {fault : Fault} → ts ≡ front ++ t ∷ rest → IsFirstRefused Spells 64 (lexemes_of ts) fault → fault.left ≡ suc (length rest) → Reads ts (Err (refusal_of fault.kind (inside_finally (lexemes_of front)) t))

-- a source without tokens is refused as Lex, with the lexer's own reason; any other gives what its tokens give
pub data Parses (src : List ℕ) : Answer → Type 0 where
  no_tokens : {e : LexError} → Tokens src (Err e) → Parses src (Err (error.Lex e))
  with_tokens : {ts : List Token} {answer : Answer} → Tokens src (Ok ts) → Reads ts answer → Parses src answer

-- the last token is END
pub record Ends (ts : List Token) : Type 0 where
  pub front : List Token
  pub line : ℕ
  pub parts : ts ≡ front ++ (record { kind = End; line = line }) ∷ []

-- what is said holds of the answer, unless memory ran out
abbrev pub Told_error : (Answer → Type 0) → ParseError → Type 0
Told_error P error.NoMemory = Unit {0}
Told_error P e = P (Err e)

-- the same of a whole answer: where it is a script, what is said holds of it
abbrev pub Told : (Answer → Type 0) → Answer → Type 0
Told P (Ok script) = P (Ok script)
Told P (Err e) = Told_error P e
