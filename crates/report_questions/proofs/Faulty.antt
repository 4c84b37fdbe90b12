-- Sources that have no tree, and those that have one.
use Rattle.std.proofs.Common.{◌≡◌, ◌∙◌, ◌<◌, sym, ap, length, ℕ, List, [], ◌∷◌, Option, Result, Ok, Err, IfOk, subst}
use Rattle.base_types.specs.declared.no_memory.NoMemory.{NoMemory}
use Rattle.base_types.specs.declared.limits.TheConstants.{LONGEST_SOURCE}
use Rattle.py_lexer.specs.Source as lexed
use Rattle.py_lexer.specs.Source.{Tokens}
use Rattle.py_lexer.specs.SourceReading.{source}
use Rattle.py_lexer.specs.declared.error.LexError.TheVariants as lex
use Rattle.py_lexer.specs.declared.word.Token.{Token}
use Rattle.py_lexer.proofs.Sources.{only}
use Rattle.py_parser.specs.declared.error.ParseError.{ParseError}
use Rattle.py_parser.specs.declared.error.ParseError.TheVariants as error
use Rattle.py_parser.specs.Parses as parses
use Rattle.py_parser.specs.Parses.{Answer, Told_error}
use Rattle.py_parser.specs.Parsed.{parsed, parsed_by}
use Rattle.py_parser.proofs.Computed.{parses_only}
use Rattle.py_syntax.specs.Grammar.{Spells}
use Rattle.py_syntax.specs.declared.stmt.Script.{Script}
use Rattle.py_parser.specs.Words.{lexemes_of}
use Rattle.report_questions.specs.SourceImports.{imports_of}
use Rattle.report_questions.specs.Faults.{fault_of}
use Rattle.report_questions.specs.Questions.{questions_of}
use Rattle.report_questions.specs.Sources.{questions_by, questions, Faulted}
use Rattle.report_questions.specs.declared.question.Question.{Question}

-- what is told of a source
abbrev pub Asks : Option (List ℕ) → List ℕ → Result (List Question) NoMemory → Type 0
Asks home src r = IfOk r (λ all. all ≡ questions home src)

never : (home : Option (List ℕ)) (src : List ℕ) (r : Result (List Question) NoMemory) → IfOk r (λ _. ⊥) → Asks home src r
never home src (Ok all) h = absurd h
never home src (Err e) h = tt

faulty : (home : Option (List ℕ)) (src : List ℕ) (e : ParseError) (r : Result (List Question) NoMemory) → Err e ≡ parsed src → IfOk r (λ all. all ≡ fault_of e ∷ []) → Asks home src r
faulty home src e r is h = subst (λ (a : Answer). IfOk r (λ all. all ≡ questions_by home a (source src))) is h

-- a fault is what the source has
pub faulted : (home : Option (List ℕ)) (src : List ℕ) (e : ParseError) (r : Result (List Question) NoMemory) → Told_error (λ told. told ≡ parsed src) e → Faulted e r → Asks home src r
faulted home src error.NoMemory r told h = never home src r h
faulted home src (error.Lex e) r told h = faulty home src (error.Lex e) r told h
faulted home src (error.Syntax line) r told h = faulty home src (error.Syntax line) r told h
faulted home src (error.TooDeep line) r told h = faulty home src (error.TooDeep line) r told h
faulted home src (error.Profile line what) r told h = faulty home src (error.Profile line what) r told h

-- a source that is too long has no tokens, and so no tree
parsed_long : (src : List ℕ) → LONGEST_SOURCE < length src → Err (error.Lex lex.TooLong) ≡ parsed src
unfolding parsed
parsed_long src long = sym (ap (λ (a : lexed.Answer). parsed_by a) (only (lexed.too_long long)))

-- what is told of it
pub too_long_asks : (home : Option (List ℕ)) (src : List ℕ) (r : Result (List Question) NoMemory) → LONGEST_SOURCE < length src → IfOk r (λ all. all ≡ fault_of (error.Lex lex.TooLong) ∷ []) → Asks home src r
too_long_asks home src r long h = faulty home src (error.Lex lex.TooLong) r (parsed_long src long) h

-- what tokens spell is the tree of their source
tree_is : (src : List ℕ) (ts : List Token) (script : Script) → Tokens src (Ok ts) → Spells 64 (lexemes_of ts) script → Ok script ≡ parsed src
tree_is src ts script h spelled = parses_only src (Ok script) (parses.with_tokens h (parses.spelled spelled))

-- so what its import statements ask is what the source asks
pub asked_by_tokens : (home : Option (List ℕ)) (src : List ℕ) (ts : List Token) (script : Script) (r : Result (List Question) NoMemory) → Tokens src (Ok ts) → Spells 64 (lexemes_of ts) script → IfOk r (λ all. all ≡ questions_of home (imports_of script ts)) → Asks home src r
asked_by_tokens home src ts script r h spelled asked =
    subst (λ (a : Answer). IfOk r (λ all. all ≡ questions_by home a (source src))) (tree_is src ts script h spelled)
    (subst (λ (a : lexed.Answer). IfOk r (λ all. all ≡ questions_by home (Ok script) a)) (sym (only h)) asked)
