-- What the first use of a lazy module goes on by.
use Rattle.meaning_script.specs.Pieces.{Piece}
use Rattle.meaning_script.specs.Lazy.{rouses}
use Rattle.meaning_script.specs.Imports.{Inside}
use Rattle.find_load.specs.declared.words.In.{In}
use Rattle.run_module.specs.Rouse.{does}
use Rattle.run_module.specs.declared.rouser.RouseStage.{RouseStage}
use Rattle.run_module.specs.declared.rouser.Rouser.{Rouser}

-- what it does at a stage by what it is fed
abbrev pub does_at : Rouser → RouseStage → In → Inside → Piece
does_at p at input inside = does inside.body p.turns p.module at input

-- the same by whatever it is fed
abbrev pub goes_on_by : Rouser → RouseStage → Inside → In → Piece
goes_on_by p at inside input = does inside.body p.turns p.«module» at input

-- its next turn
abbrev pub again : Rouser → Inside → Piece
again p inside = rouses inside.body p.turns p.module
