-- What the first use of a lazy module does from each stage on.
use Rattle.std.specs.Prelude.{ℕ}
use Rattle.py_value.specs.declared.value.ModRef.{ModRef}
use Rattle.meaning_state.specs.declared.fault.Fault.TheVariants as fault
use Rattle.meaning_script.specs.Pieces.{Piece, passes, fails}
use Rattle.meaning_script.specs.Lazy.{Body, rouses, rousing, woken}
use Rattle.meaning_script.specs.Imports.{Inside}
use Rattle.find_load.specs.Means.{GoesOn}
use Rattle.find_load.specs.declared.words.In.{In}
use Rattle.find_load.specs.declared.words.In.TheVariants as given
use Rattle.find_load.specs.declared.words.Want.{Want}
use Rattle.run_module.specs.declared.rouser.RouseStage.{RouseStage}
use Rattle.run_module.specs.declared.rouser.RouseStage.TheVariants as stage
use Rattle.run_module.specs.declared.rouser.Rouser.{Rouser}

-- from a stage on, by what is fed, where so many more turns may follow
abbrev pub does : Body → ℕ → ModRef → RouseStage → In → Piece
does body turns m stage.Begins given.Start = rouses body turns m
does body turns m stage.Asked (given.Replied r) = rousing body (rouses body turns m) m r
does body turns m stage.Waits given.Woken = rouses body turns m
does body turns m (stage.Running load) (given.Ended flow) = woken load flow
does body turns m stage.Finished (given.Replied r) = passes
does body turns m (stage.Left flow) (given.Replied r) = λ s k. k flow s
does body turns m other input = fails fault.NotInProfile

-- a first use that is under way goes on by what it is fed, with its own module, turns and stage
abbrev pub means : Inside → Rouser → In → Piece
means inside p = does inside.body p.turns p.module p.stage

-- the run goes on by what is wanted, from what the first use means after it
pub record RouseGoes (run : Inside → Piece) (after : Rouser) (w : Want) : Type 0 where
  pub goes : GoesOn run (λ inside. means inside after) w
