-- Texts that are put together one by one.
use Rattle.std.specs.Prelude.{ℕ, List, ◌++◌, Option, Some, None}

-- texts before others, where the others are texts alone
abbrev pub behind : List (List ℕ) → Option (List (List ℕ)) → Option (List (List ℕ))
behind xs None = None
behind xs (Some ys) = Some (xs ++ ys)
