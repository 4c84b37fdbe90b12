-- What the start of a module as a program does from each stage on.
use Rattle.std.specs.Prelude.{ℕ, List, Option, Some, None}
use Rattle.spec_core.specs.Names.{parent_of}
use Rattle.py_value.specs.declared.value.Value.{Value}
use Rattle.meaning_state.specs.declared.fault.Fault.TheVariants as fault
use Rattle.meaning_state.specs.declared.flow.Flow.TheVariants.{Went, Left}
use Rattle.meaning_script.specs.Pieces.{Piece, fails}
use Rattle.meaning_script.specs.Imports.{Inside}
use Rattle.find_load.specs.Means.{GoesOn}
use Rattle.find_load.specs.declared.words.In.{In}
use Rattle.find_load.specs.declared.words.In.TheVariants as given
use Rattle.find_load.specs.declared.words.Want.{Want}
use Rattle.run_module.specs.Programs as spec
use Rattle.run_module.specs.Programs.{absent_text, discovers, has_text, on_entry, on_parent_path, on_search_path, packaged, reads_path, refuses, runs, main_name}
use Rattle.run_module.specs.declared.start.Stage.{Stage}
use Rattle.run_module.specs.declared.start.Stage.TheVariants as stage
use Rattle.run_module.specs.declared.start.ModuleStart.{ModuleStart}

-- nothing was found of the name
abbrev pub absent : Option (List ℕ) → List ℕ → Piece
absent home n = refuses (absent_text home n)

-- the search for the name and what follows
abbrev pub finds : Inside → ℕ → Option (List ℕ) → List ℕ → List Value → Piece
finds inside t home n = spec.finds inside t (absent home n) (packaged inside t home n) n

-- from a stage on, by what is fed
abbrev pub does : Inside → ℕ → Option (List ℕ) → List ℕ → Stage → In → Piece
does inside t home n stage.Begins given.Start = runs inside t home n
does inside t home n stage.Parent (given.Ended (Went v)) = reads_path inside (finds inside t home n) n (parent_of n)
does inside t home n stage.Parent (given.Ended (Left leave)) = λ s k. k (Left leave) s
does inside t home n stage.SearchPath (given.Replied r) = on_search_path (finds inside t home n) r
does inside t home n (stage.ParentEntry p) (given.Replied r) = on_entry inside (finds inside t home n) n p r
does inside t home n (stage.ParentPath p) (given.Ended flow) = on_parent_path (finds inside t home n) n p flow
does inside t home n stage.Searched (given.Found answer) = discovers inside t (absent home n) (packaged inside t home n) answer
does inside t home n (stage.File spec) (given.Opened None) = absent home n
does inside t home n (stage.File spec) (given.Opened (Some text)) = has_text inside t (packaged inside t home n) spec text
does inside t home n (stage.Main text) (given.Replied r) = inside.body t t main_name text
does inside t home n stage.Running (given.Ended flow) = λ s k. k flow s
does inside t home n other input = fails fault.NotInProfile

-- a start that is under way goes on by what it is fed, with its own thread, package, name and stage
abbrev pub means : Inside → ModuleStart → In → Piece
means inside p = does inside p.script p.home p.name p.stage

-- the run goes on by what is wanted, from what the start means after it
pub record Goes (run : Inside → Piece) (after : ModuleStart) (w : Want) : Type 0 where
  pub goes : GoesOn run (λ inside. means inside after) w
