-- The tree of a source is spelled by its tokens, whose names are identifiers.
use Rattle.std.proofs.Common.{◌≡◌, ℕ, List, [], ◌∷◌, Ok, subst}
use Rattle.std.specs.List.{AllByRecursion}
use Rattle.std.specs.Str.{IsUtf8}
use Rattle.std.specs.Prelude.{IsTrue}
use Rattle.spec_core.specs.Identifiers.{is_dotted}
use Rattle.py_parser.specs.Words.{lexemes_of}
use Rattle.py_syntax.specs.declared.lexeme.Lexeme.{Lexeme}
use Rattle.py_syntax.specs.declared.lexeme.Lexeme.TheVariants as token
use Rattle.py_syntax.specs.declared.stmt.Script.{Script}
use Rattle.py_syntax.specs.Grammar.{Spells}
use Rattle.source_print.specs.Lines.{Held}
use Rattle.source_print.specs.TextLaws.{IsSource}
use Rattle.source_print.proofs.Sources.{Writable, tokens_writable}
use Rattle.py_parser.specs.Parses as parses
use Rattle.py_parser.specs.Parses.{Answer, Parses}
use Rattle.py_parser.specs.Parsed.{parsed}
use Rattle.py_parser.proofs.Computed.{parses_so}
use Rattle.source_functions.proofs.Numbers.{numbered}
use Rattle.source_laws.specs.Laws.{dotted_text, FunctionsAreNumbered, NamesAreGood}
use Rattle.source_laws.proofs.Mentioned.{IsFine, script_told}
use Rattle.source_laws.proofs.Texts.{IsGoodName, good_name, names_dotted}

source_of : {src : List ℕ} {answer : Answer} (s : Script) → Parses src answer → answer ≡ Ok s → IsSource src s
source_of s (parses.no_tokens h) e = absurd cc
source_of s (parses.with_tokens {ts = ts} h (parses.spelled {script = other} k)) e =
    let same : other ≡ s = cc in record { tokens = ts; lexed = h; spelled = subst (λ x. Spells 64 (lexemes_of ts) x) same k }
source_of s (parses.with_tokens h (parses.refused front rest t p r l)) e = absurd cc

-- a source of which a tree is parsed is a source of it
pub parsed_source : (src : List ℕ) (s : Script) → parsed src ≡ Ok s → IsSource src s
parsed_source src s e = source_of s (parses_so src) e

pub functions_numbered : FunctionsAreNumbered
functions_numbered src s e = let from = parsed_source src s e in numbered 64 (lexemes_of from.tokens) s from.spelled

-- the parts of a dotted name, where their texts are UTF-8
abbrev GoodParts : List (List ℕ) → Type 0
GoodParts parts = AllByRecursion IsUtf8 parts → IsTrue (is_dotted (dotted_text parts))

fine : (t : Lexeme) → Writable t → IsFine IsGoodName GoodParts names_dotted t
fine (token.Name n) h = good_name n h
fine t h = tt

all_fine : (ts : List Lexeme) → Held Writable ts → Held (IsFine IsGoodName GoodParts names_dotted) ts
all_fine [] h = tt
all_fine (t ∷ ts) h = (fine t h.0, all_fine ts h.1)

pub names_good : NamesAreGood
names_good src s e =
    let from = parsed_source src s e in
    script_told IsGoodName GoodParts names_dotted 64 (lexemes_of from.tokens) s from.spelled (all_fine (lexemes_of from.tokens) (tokens_writable src from.tokens from.lexed))
