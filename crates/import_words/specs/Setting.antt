-- An option, with its value as it is spelled.
use Rattle.std.specs.Prelude.{ℕ, List}

-- three options have a value, which is not judged here; the two flags have none
pub data Setting : Type 0 where
  Path : List ℕ → Setting
  Fuel : List ℕ → Setting
  Rounds : List ℕ → Setting
  Bundles : Setting
  Trace : Setting
