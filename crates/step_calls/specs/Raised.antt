-- The errors of sources that do not parse.
use Rattle.std.specs.Prelude.{◌≡◌}
use Rattle.py_value.specs.declared.value.Raised.{Raised}
use Rattle.py_parser.specs.declared.error.ParseError.{ParseError}
use Rattle.py_parser.specs.declared.error.ParseError.TheVariants as error
use Rattle.step_calls.specs.Sources.{parsing_error}

-- what the body raises of a source that has no tree. No source raises want of memory
abbrev pub IsRaised : ParseError → Raised → Type 0
IsRaised error.NoMemory raised = ⊥
IsRaised e raised = raised ≡ parsing_error e
