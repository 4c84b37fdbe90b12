-- Sources of scripts, in terms of the parser.
use Rattle.std.specs.Prelude.{◌↔◌, ℕ, List, Ok}
use Rattle.py_syntax.specs.declared.stmt.Script.{Script}
use Rattle.py_parser.specs.Parses.{Parses}
use Rattle.source_print.specs.TextLaws.{IsSource}

-- the sources of a script are what parses to it
abbrev pub SourcesParse : Type 0
SourcesParse = (src : List ℕ) (s : Script) → IsSource src s ↔ Parses src (Ok s)
