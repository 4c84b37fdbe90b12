-- The path of a namespace package is computed again where the parent path has changed, or what finders know was
-- dropped (PEP 420, "Dynamic path computation"; `_NamespacePath._recalculate` of `importlib._bootstrap_external`).
use Rattle.std.specs.Prelude.{ℕ, List, Option, Some, None}
use Rattle.py_value.specs.declared.value.Value.{Value}
use Rattle.py_value.specs.declared.value.NsState.{NsState}
use Rattle.path_finder.specs.declared.words.Found.{Found}
use Rattle.path_finder.specs.declared.words.Found.TheVariants as found

-- "If a namespace package is found, its portions are the new path; else the old path stays": a regular package or a
-- module does not take the place of a namespace package that is imported already
abbrev pub portions_after : List (List ℕ) → Option Found → List (List ℕ)
portions_after old (Some (found.Portions portions)) = portions
portions_after old (Some (found.Spec spec)) = old
portions_after old None = old

-- the parent path and the epoch of the search are kept whatever it found: while they stay, none is made again
abbrev pub recomputed : NsState → List Value → ℕ → Option Found → NsState
recomputed state parent_path epoch found = record { parent_path = parent_path; epoch = epoch; portions = portions_after state.portions found }
