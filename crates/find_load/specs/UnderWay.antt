-- What an import that is under way goes on by.
use Rattle.std.specs.Prelude.{ℕ, List, false}
use Rattle.py_value.specs.declared.value.Value.{Value}
use Rattle.meaning_script.specs.Pieces.{Piece}
use Rattle.meaning_script.specs.Imports.{Inside, asks, finds}
use Rattle.find_load.specs.Means.{does, lazily}
use Rattle.find_load.specs.declared.words.In.{In}
use Rattle.find_load.specs.declared.import.Stage.{Stage}
use Rattle.find_load.specs.declared.import.Importer.{Importer}

-- what it goes into
abbrev pub within : Importer → Inside → Inside
within p inside = lazily p.is_lazy inside

-- what it does at a stage by what it is fed
abbrev pub does_at : Importer → Stage → In → Inside → Piece
does_at p at input inside = does (within p inside) p.turns p.name at input

-- the same by whatever it is fed
abbrev pub goes_on_by : Importer → Stage → Inside → In → Piece
goes_on_by p at inside input = does (within p inside) p.turns p.name at input

-- its next turn: a look into the cache and what follows
abbrev pub again : Importer → Inside → Piece
again p inside = asks (within p inside) p.turns false p.name

-- the search for its name on a path and what follows, with the epoch of its lock
abbrev pub found_on : Importer → ℕ → Inside → List Value → Piece
found_on p epoch inside = finds (within p inside) (again p inside) p.name epoch
