-- The names that the import system itself knows.
use Rattle.std.specs.Prelude.{ℕ, List, codes}
use Rattle.spec_core.specs.declared.known.KnownName.{KnownName}
use Rattle.spec_core.specs.declared.known.KnownName.TheVariants as known

-- the module of a script, two of Python's own modules, and `pyimport`, which is this project's
abbrev pub known_text : KnownName → List ℕ
known_text known.Main = codes "__main__"
known_text known.Sys = codes "sys"
known_text known.Importlib = codes "importlib"
known_text known.Pyimport = codes "pyimport"
