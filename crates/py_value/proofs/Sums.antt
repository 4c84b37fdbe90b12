-- Sums and greatest ones of a list of values with one more at its end.
use Rattle.std.proofs.Common.{◌≡◌, ◌∙◌, ap, ◌+◌, max, List, [], ◌∷◌, ◌++◌, arith, map}
use Rattle.std.proofs.lemmas.List.{map_push}
use Rattle.std.proofs.lemmas.List.Sums.{sum_by_push}
use Rattle.std.specs.List.{sum}
use Rattle.py_value.specs.declared.value.Value.{Value}
use Rattle.py_value.specs.Measures.{most, size_of, nesting_of}

pub sum_last : (items : List Value) (item : Value) → sum (map size_of (items ++ item ∷ [])) ≡ sum (map size_of items) + size_of item
sum_last items item = ap sum (map_push size_of items item) ∙ sum_by_push (λ n. n) (map size_of items) (size_of item)

pub most_last : (items : List Value) (item : Value) → most (map nesting_of (items ++ item ∷ [])) ≡ max (most (map nesting_of items)) (nesting_of item)
most_last [] item = omega arith
most_last (x ∷ items) item = let rest = most_last items item in omega arith
