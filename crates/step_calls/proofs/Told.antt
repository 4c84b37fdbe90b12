-- What a text comes to is what the parser answers.
use Rattle.std.proofs.Common.{◌≡◌, ◌∙◌, ap, List, ℕ, Ok, Err}
use Rattle.py_value.specs.declared.value.Raised.{Raised}
use Rattle.py_syntax.specs.declared.stmt.Script.{Script}
use Rattle.py_parser.specs.declared.error.ParseError.{ParseError}
use Rattle.py_parser.specs.declared.error.ParseError.TheVariants as error
use Rattle.py_parser.specs.Parses.{Told}
use Rattle.py_parser.specs.Parsed.{parsed}
use Rattle.meaning_state.specs.declared.thread.Parsing.TheVariants.{Parsed, Faulty}
use Rattle.step_calls.specs.Sources.{sources, parsing_of}
use Rattle.step_calls.specs.Raised.{IsRaised}

pub scripted : (text : List ℕ) (script : Script) → Told (λ told. told ≡ parsed text) (Ok script) → Parsed script ≡ sources text
unfolding sources
scripted text script told = ap parsing_of told

pub faulty : (text : List ℕ) (e : ParseError) (raised : Raised) → Told (λ told. told ≡ parsed text) (Err e) → IsRaised e raised → Faulty raised ≡ sources text
unfolding sources
faulty text (error.Lex e) raised told is = ap Faulty is ∙ ap parsing_of told
faulty text (error.Syntax line) raised told is = ap Faulty is ∙ ap parsing_of told
faulty text (error.TooDeep line) raised told is = ap Faulty is ∙ ap parsing_of told
faulty text (error.Profile line what) raised told is = ap Faulty is ∙ ap parsing_of told
faulty text error.NoMemory raised told is = absurd is
