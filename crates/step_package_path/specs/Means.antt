-- What the reading of a path does from each stage on.
use Rattle.std.specs.Prelude.{ℕ, codes, true, false}
use Rattle.py_value.specs.declared.value.ModRef.{ModRef}
use Rattle.machine_events.specs.declared.event.Event.TheVariants as e
use Rattle.namespace_path.specs.Recompute.{recomputed}
use Rattle.meaning_state.specs.declared.fault.Fault.TheVariants as fault
use Rattle.meaning_state.specs.declared.flow.Flow.TheVariants.{Went, Left}
use Rattle.meaning_script.specs.Pieces.{Piece, calls, fails}
use Rattle.meaning_script.specs.Imports.{Inside, roused}
use Rattle.meaning_script.specs.Paths.{Space, paths, path_read, path_came, namespace_path, has_state, below_top, below_entry, below_value, keeps_state, has_portions}
use Rattle.find_load.specs.Means.{GoesOn}
use Rattle.find_load.specs.declared.words.In.{In}
use Rattle.find_load.specs.declared.words.In.TheVariants as given
use Rattle.find_load.specs.declared.words.Want.{Want}
use Rattle.step_package_path.specs.declared.reader.Namespace.{Namespace}
use Rattle.step_package_path.specs.declared.reader.Stage.{Stage}
use Rattle.step_package_path.specs.declared.reader.Stage.TheVariants as stage
use Rattle.step_package_path.specs.declared.reader.PathReader.{PathReader}

-- the namespace of a module
abbrev pub space : ModRef → Space
space m = record { mid = m.mid; name = m.name }

-- the same under the dotted name that its own was read as
abbrev pub named : ModRef → Namespace → Space
named m namespace = record { mid = m.mid; name = namespace.name }

-- the paths of modules, of which so many more may stand above
abbrev pub above : Inside → ℕ → ModRef → Piece
above inside turns = paths (roused inside) turns

-- the path of a lazy module that was loaded
abbrev pub reads_raw : Inside → ℕ → ModRef → Piece
reads_raw inside turns m s k =
    calls (e.GetVar m.mid (codes "__path__") true) (λ r. path_read (above inside turns) m r s k)

-- from a stage on, by what is fed, where so many more modules may stand above
abbrev pub does : Inside → ℕ → ModRef → Stage → In → Piece
does inside turns m stage.Begins given.Start = above inside turns m
does inside turns m stage.Read (given.Replied r) = path_came (roused inside) (above inside turns) false m r
does inside turns m stage.Roused (given.Ended (Went v)) = reads_raw inside turns m
does inside turns m stage.Roused (given.Ended (Left leave)) = λ s k. k (Left leave) s
does inside turns m stage.ReadRaw (given.Replied r) = path_read (above inside turns) m r
does inside turns m stage.Replaces given.Start = namespace_path (above inside turns) (space m)
does inside turns m stage.StateRead (given.Replied r) = has_state (above inside turns) (space m) r
does inside turns m (stage.AtTop namespace) (given.Replied r) = below_top (named m namespace) namespace.state namespace.epoch r
does inside turns m (stage.AtEntry namespace) (given.Replied r) =
    below_entry (above inside turns) (named m namespace) namespace.state namespace.epoch r
does inside turns m (stage.Above namespace) (given.Ended (Went v)) = below_value (named m namespace) namespace.state namespace.epoch v
does inside turns m (stage.Above namespace) (given.Ended (Left leave)) = λ s k. k (Left leave) s
does inside turns m (stage.Searched state epoch path) (given.Found answer) = keeps_state (space m) (recomputed state path epoch answer)
does inside turns m (stage.Kept state) (given.Replied r) = has_portions state
does inside turns m other input = fails fault.NotInProfile

-- a reading of a path that is under way goes on by what it is fed, with its own module, turns and stage
abbrev pub means : Inside → PathReader → In → Piece
means inside p = does inside p.turns p.module p.stage

-- the run goes on by what is wanted, from what the reading means after it
pub record Goes (run : Inside → Piece) (after : PathReader) (w : Want) : Type 0 where
  pub goes : GoesOn run (λ inside. means inside after) w
