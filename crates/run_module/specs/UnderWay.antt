-- What the start of a module that is under way goes on by.
use Rattle.std.specs.Prelude.{List}
use Rattle.py_value.specs.declared.value.Value.{Value}
use Rattle.meaning_script.specs.Pieces.{Piece}
use Rattle.meaning_script.specs.Imports.{Inside}
use Rattle.find_load.specs.declared.words.In.{In}
use Rattle.run_module.specs.Programs as spec
use Rattle.run_module.specs.Means.{absent, does, finds}
use Rattle.run_module.specs.declared.start.Stage.{Stage}
use Rattle.run_module.specs.declared.start.ModuleStart.{ModuleStart}

-- what it does at a stage by what it is fed
abbrev pub does_at : ModuleStart → Stage → In → Inside → Piece
does_at p at input inside = does inside p.script p.home p.name at input

-- the same by whatever it is fed
abbrev pub goes_on_by : ModuleStart → Stage → Inside → In → Piece
goes_on_by p at inside input = does inside p.script p.home p.name at input

-- the search for its name on a path, and what follows
abbrev pub found_on : ModuleStart → Inside → List Value → Piece
found_on p inside = finds inside p.script p.home p.name

-- what is run where a package is found
abbrev pub packaged : ModuleStart → Inside → Piece
packaged p inside = spec.packaged inside p.script p.home p.name

-- what is raised where nothing is found
abbrev pub missing : ModuleStart → Piece
missing p = absent p.home p.name
