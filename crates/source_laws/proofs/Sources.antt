-- The sources of a script are what parses to it.
use Rattle.std.proofs.Common.{ℕ, List, Ok, Err}
use Rattle.py_lexer.specs.declared.word.Token.{Token}
use Rattle.py_lexer.specs.Source.{Tokens}
use Rattle.py_parser.specs.Words.{lexemes_of}
use Rattle.py_syntax.specs.declared.stmt.Script.{Script}
use Rattle.py_syntax.specs.Grammar.{Spells}
use Rattle.py_parser.specs.Parses as parses
use Rattle.py_parser.specs.Parses.{Answer, Reads, Parses}
use Rattle.source_print.specs.TextLaws.{IsSource}

pub source_parses : (src : List ℕ) (s : Script) → IsSource src s → Parses src (Ok s)
source_parses src s from = parses.with_tokens from.lexed (parses.spelled from.spelled)

abbrev IsSpelled : List Token → Answer → Type 0
IsSpelled ts (Ok s) = Spells 64 (lexemes_of ts) s
IsSpelled ts (Err e) = Unit {0}

read_spelled : {ts : List Token} {answer : Answer} → Reads ts answer → IsSpelled ts answer
read_spelled (parses.spelled h) = h
read_spelled (parses.refused front rest t p h l) = tt

abbrev Comes : List ℕ → Answer → Type 0
Comes src (Ok s) = IsSource src s
Comes src (Err e) = Unit {0}

comes_by : (src : List ℕ) (ts : List Token) (answer : Answer) → Tokens src (Ok ts) → IsSpelled ts answer → Comes src answer
comes_by src ts (Ok s) h k = record { tokens = ts; lexed = h; spelled = k }
comes_by src ts (Err e) h k = tt

pub parsed_source : (src : List ℕ) (answer : Answer) → Parses src answer → Comes src answer
parsed_source src answer (parses.no_tokens h) = tt
parsed_source src answer (parses.with_tokens {ts = ts} {answer = read} h r) = comes_by src ts read h (read_spelled r)
