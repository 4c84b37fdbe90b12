-- Two lists of items where one has come to its end.
use Rattle.std.proofs.Common.{◌≡◌, refl, ◌<◌, List, [], ◌∷◌, length, arith}
use Rattle.py_value.specs.declared.value.Value.{Value}
use Rattle.value_operators.specs.declared.comparison.Compared.{Compared}
use Rattle.value_operators.specs.declared.comparison.Compared.TheVariants as compares
use Rattle.value_operators.specs.Comparison.{compared_items}

pub longer : (xs : List (Value → Compared)) (ys : List Value) → 0 < length xs → length ys ≡ 0 → compared_items xs ys ≡ compares.Greater
longer [] ys more none = absurd (omega arith)
longer (x ∷ xs) [] more none = refl
longer (x ∷ xs) (y ∷ ys) more none = absurd (omega arith)

pub shorter : (xs : List (Value → Compared)) (ys : List Value) → length xs ≡ 0 → 0 < length ys → compared_items xs ys ≡ compares.Less
shorter [] [] none more = absurd (omega arith)
shorter [] (y ∷ ys) none more = refl
shorter (x ∷ xs) ys none more = absurd (omega arith)
