-- The names of a listing.
use Rattle.std.specs.Prelude.{ℕ, Bool, List, nat_eq, IsSorted}
use Rattle.std.specs.List.{list_any}
use Rattle.std.specs.Ordering.{nat_cmp}
use Rattle.std.specs.Cmp.Lexicographic.{pointwise, slice_cmp}

-- whether a name is among them
abbrev pub has_part : List (List ℕ) → List ℕ → Bool
has_part names part = list_any (λ name. pointwise nat_eq name part) names

-- no name comes before one that is less, byte by byte
abbrev pub Rise : List (List ℕ) → Type 0
Rise names = IsSorted (slice_cmp nat_cmp) names
