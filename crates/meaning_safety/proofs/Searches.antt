-- A search is safe where what follows it is, for an answer that has the name which was searched.
use Rattle.std.proofs.Common.{◌≡◌, ℕ, List, [], Option}
use Rattle.py_value.specs.declared.value.Value.{Value}
use Rattle.machine_shown.specs.Shown.{Shown, Running}
use Rattle.path_finder.specs.Steps.{searches}
use Rattle.path_finder.specs.declared.words.Found.{Found}
use Rattle.meaning_runs.specs.Runs.{Run, Safe}
use Rattle.meaning_script.specs.Searches.{searches_in, IsNamed, Same}
use Rattle.meaning_script.proofs.Safety.{safe_search}
use Rattle.meaning_safety.proofs.Growth.{Fits}

fits_same : (s later : Shown) → Same s later → Fits s later
fits_same s later same = record {
  grows = record { mids = same.mids; modules = same.modules; loads = same.loads; namespaces = same.namespaces };
  held_is = same.held;
  runs = same.runs;
}

abbrev pub SafeBehind : List ℕ → Shown → (Option Found → Run) → Type 0
SafeBehind name s k = (s' : Shown) → Fits s s' → (it : Option Found) → IsNamed name it → Safe s' (k it)

pub search_safe : (s : Shown) (name : List ℕ) (path : List Value) (k : Option Found → Run) → s.doing ≡ Running → SafeBehind name s k → Safe s (searches_in (searches name path []) k)
search_safe s name path k run safe = safe_search name path [] s k run (λ later same. safe later (fits_same s later same))
