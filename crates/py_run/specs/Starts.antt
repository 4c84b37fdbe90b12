-- What a thread does by how it starts.
use Rattle.std.specs.Prelude.{◌≡◌, ℕ}
use Rattle.meaning_runs.specs.Runs.{Run}
use Rattle.meaning_script.specs.Meaning.{meaning}
use Rattle.run_module.specs.Programs.{meaning_of_name}
use Rattle.step_calls.specs.Sources.{sources}
use Rattle.py_frames.specs.declared.want.Want.{Want}
use Rattle.py_run.specs.Turns.{remains}
use Rattle.py_run.specs.Overs.{Fresh}
use Rattle.drive_straight.specs.declared.execution.Execution.{Execution}
use Rattle.py_run.specs.declared.start.Start.{Start}
use Rattle.py_run.specs.declared.start.Start.TheVariants as start

-- what thread t does: its script, or the module of its name as a program
abbrev pub started : ℕ → Start → Run
started t (start.Script text) = meaning sources t text
started t (start.Module n) = meaning_of_name sources t n

-- a thread that has done nothing yet and wants this does this run
abbrev pub StartsAs : ℕ → Run → Want → Type 0
StartsAs t run want = (fuel : ℕ) (c : Execution) → Fresh t fuel c → remains c want ≡ run
