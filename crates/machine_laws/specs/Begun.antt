-- What a machine is begun with.
use Rattle.std.specs.Prelude.{◌≡◌, ◌≤◌, ℕ, List, [], ◌∷◌, length}
use Rattle.std.specs.List.{sum}
use Rattle.machine_spec.specs.declared.state.State.{State}
use Rattle.machine_spec.specs.Opening.{opening}

-- each round has a script
abbrev pub HaveScripts : List ℕ → Type 0
HaveScripts [] = Unit {0}
HaveScripts (size ∷ sizes) = (1 ≤ size) × HaveScripts sizes

-- 1 to 16 scripts with their texts, a search path, and the sizes of the rounds, each at least 1
pub record Begun : Type 0 where
  pub scripts : List (List ℕ)
  pub texts : List (List ℕ)
  pub path : List (List ℕ)
  pub rounds : List ℕ
  pub some : 1 ≤ length scripts
  pub few : length scripts ≤ 16
  pub as_many : length texts ≡ length scripts
  pub each : HaveScripts rounds
  pub whole : sum rounds ≡ length scripts

-- the state before the first event
abbrev pub first : Begun → State
first b = opening b.scripts b.texts b.path b.rounds
