-- What the reading of a path that is under way goes on by.
use Rattle.std.specs.Prelude.{ℕ, List, Option}
use Rattle.py_value.specs.declared.value.ModRef.{ModRef}
use Rattle.py_value.specs.declared.value.Value.{Value}
use Rattle.machine_events.specs.declared.module.Slot.{Slot}
use Rattle.meaning_script.specs.Pieces.{Piece}
use Rattle.meaning_script.specs.Imports.{Inside}
use Rattle.meaning_script.specs.Paths.{below, below_slot, below_parent, computes_again}
use Rattle.find_load.specs.declared.words.In.{In}
use Rattle.step_package_path.specs.Means.{above, does, named}
use Rattle.step_package_path.specs.declared.reader.Namespace.{Namespace}
use Rattle.step_package_path.specs.declared.reader.Stage.{Stage}
use Rattle.step_package_path.specs.declared.reader.PathReader.{PathReader}

-- what it does at a stage by what it is fed
abbrev pub does_at : PathReader → Stage → In → Inside → Piece
does_at p at input inside = does inside p.turns p.module at input

-- the paths of the modules above
abbrev pub paths_of : PathReader → Inside → ModRef → Piece
paths_of p inside = above inside p.turns

-- the portions of a namespace are searched on a path, whatever is kept of them
abbrev pub searched_below : PathReader → Namespace → List Value → Inside → Piece
searched_below p namespace path inside = computes_again (named p.module namespace) namespace.state namespace.epoch path

-- the portions that are kept, where they were computed from this path at this epoch; else they are searched on it again
abbrev pub below_path : PathReader → Namespace → List Value → Inside → Piece
below_path p namespace path inside = below (named p.module namespace) namespace.state namespace.epoch path

-- below the path of the module that stands there; where none stands, or it has no path, the portions stay as kept
abbrev pub below_entry : PathReader → Namespace → Slot → Inside → Piece
below_entry p namespace slot inside =
    below_slot (paths_of p inside) (named p.module namespace) namespace.state namespace.epoch slot

-- below the search path where its own name has no parent, else below what the cache has for the parent
abbrev pub below_name : PathReader → Namespace → Option (List ℕ) → Inside → Piece
below_name p namespace parent inside =
    below_parent (paths_of p inside) (named p.module namespace) namespace.state namespace.epoch parent
