-- What a source gives is what is computed of it.
use Rattle.std.proofs.Common.{◌≡◌, ℕ, suc, ◌-◌, ◌<◌, ◌≤◌, List, [], length, take, drop, Option, Ok, Err, refl, sym, subst, arith}
use Rattle.source_combinators.specs.declared.fault.Fault.{Fault}
use Rattle.source_combinators.specs.Reading.{Read, given}
use Rattle.source_combinators.proofs.Theorem.{first_refused}
use Rattle.py_lexer.specs.Source.{Answer as Lexed, Tokens}
use Rattle.py_lexer.specs.SourceReading.{source}
use Rattle.py_lexer.specs.declared.word.Token.{Token}
use Rattle.py_lexer.proofs.Sources.{gives}
use Rattle.py_parser.specs.Words.{lexemes_of}
use Rattle.py_syntax.specs.declared.lexeme.Lexeme.{Lexeme}
use Rattle.py_syntax.specs.declared.stmt.Script.{Script}
use Rattle.py_syntax.specs.Grammar.{Spells}
use Rattle.source_spec_statements.specs.Reading.{script}
use Rattle.source_spec_statements.proofs.Complete.{complete_script}
use Rattle.source_spec_statements.proofs.Whole.{script_reader}
use Rattle.source_parse_statements.proofs.Whole.{is_spelled}
use Rattle.py_parser.specs.Parses as parses
use Rattle.py_parser.specs.Parses.{Answer, Reads, Parses, Ends, Told}
use Rattle.py_parser.specs.Parsed.{refused_token, read_by, read, parsed_by, parsed}
use Rattle.py_parser.proofs.Answers.{IsRefused, whole, positive, token_at, cut_at, left_at, left_within}
use Rattle.py_parser.proofs.LastToken.{tokens_end}
use Rattle.py_parser.proofs.OneAnswer.{one_parse, told_only}

-- a script would have been read
not_refused : (ts : List Token) (fault : Fault) (s : Script) → script 64 (lexemes_of ts) ≡ Err fault → Spells 64 (lexemes_of ts) s → ⊥
not_refused ts fault s e h = let read : script 64 (lexemes_of ts) ≡ given s [] = complete_script 64 (lexemes_of ts) s h in absurd cc

some_left : (ts : List Token) (fault : Fault) → Ends ts → IsRefused ts fault → script 64 (lexemes_of ts) ≡ Err fault → 0 < fault.left
some_left ts fault ends refused e = positive fault.left (λ z. let (s, h) = whole ts fault ends refused z in not_refused ts fault s e h)

reads_by : (ts : List Token) → Ends ts → (r : Read Lexeme Script) → script 64 (lexemes_of ts) ≡ r → Reads ts (read_by ts r)
reads_by ts ends (Ok x) e = parses.spelled (is_spelled 64 (lexemes_of ts) x.1 x.0 e)
reads_by ts ends (Err fault) e =
    let refused : IsRefused ts fault = first_refused script Spells script_reader 64 (lexemes_of ts) fault e in
    let some : 0 < fault.left = some_left ts fault ends refused e in
    let within : fault.left ≤ length ts = left_within ts fault refused in
    let k : ℕ = length ts - fault.left in
    let (t, found) = token_at ts k (omega arith) in
    subst (λ (o : Option Token). Reads ts (refused_token ts fault o)) (sym found)
    (parses.refused (take k ts) (drop (suc k) ts) t (cut_at ts k t found) refused (left_at ts fault.left t within found))

reads : (ts : List Token) → Ends ts → Reads ts (read ts)
unfolding read
reads ts ends = reads_by ts ends (script 64 (lexemes_of ts)) refl

parses_by : (src : List ℕ) (lexed : Lexed) → Tokens src lexed → Parses src (parsed_by lexed)
parses_by src (Ok ts) h = parses.with_tokens h (reads ts (tokens_end src ts h))
parses_by src (Err e) h = parses.no_tokens h

pub parses_so : (src : List ℕ) → Parses src (parsed src)
unfolding parsed
parses_so src = parses_by src (source src) (gives src)

pub parses_only : (src : List ℕ) (answer : Answer) → Parses src answer → answer ≡ parsed src
parses_only src answer h = one_parse src answer (parsed src) h (parses_so src)

pub told_parsed_so : (src : List ℕ) (r : Answer) → Told (Parses src) r → Told (λ told. told ≡ parsed src) r
told_parsed_so src r h = told_only src r h (parsed src) (parses_so src)
