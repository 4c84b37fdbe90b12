-- What a thread wants first.
use Rattle.std.proofs.Common.{◌≡◌, ℕ, List, [], codes, None, refl}
use Rattle.meaning_script.specs.Meaning.{meaning, first_state}
use Rattle.find_load.specs.declared.words.In.TheVariants as given
use Rattle.run_module.specs.Programs.{meaning_of_name}
use Rattle.run_module.specs.declared.start.Stage.TheVariants as stage
use Rattle.run_module.specs.declared.start.ModuleStart.{ModuleStart}
use Rattle.step_calls.specs.Sources.{sources}
use Rattle.py_frames.specs.Does.{want_does, rest}
use Rattle.py_frames.specs.declared.procedures.Procedure.TheVariants.{Program}
use Rattle.py_frames.specs.declared.work.Item.TheVariants.{Start, Feed}
use Rattle.py_frames.specs.declared.want.Want.TheVariants as want
use Rattle.py_run.specs.Starts.{StartsAs}

-- the start of a module, before its first event
abbrev pub begins_at : ℕ → List ℕ → ModuleStart
begins_at t n = record { script = t; home = None; name = n; stage = stage.Begins }

script_first : (t : ℕ) (text : List ℕ) → want_does sources 200 (want.Then (Start t t (codes "__main__") text)) (rest sources []) (first_state t) ≡ meaning sources t text
unfolding meaning
script_first t text = refl

module_first : (t : ℕ) (n : List ℕ) → want_does sources 200 (want.Then (Feed (Program (begins_at t n)) given.Start)) (rest sources []) (first_state t) ≡ meaning_of_name sources t n
unfolding meaning_of_name
module_first t n = refl

pub script_starts : (t : ℕ) (name text : List ℕ) → name ≡ codes "__main__" → StartsAs t (meaning sources t text) (want.Then (Start t t name text))
script_starts t name text is fuel c fresh = rw is (rw fresh.thread (rw fresh.work (script_first t text)))

pub module_starts : (t : ℕ) (n : List ℕ) (start : ModuleStart) → start ≡ begins_at t n → StartsAs t (meaning_of_name sources t n) (want.Then (Feed (Program start) given.Start))
module_starts t n start is fuel c fresh = rw is (rw fresh.thread (rw fresh.work (module_first t n)))
