-- The cost of texts with one more at their end.
use Rattle.std.proofs.Common.{◌≡◌, ◌∙◌, ap, ℕ, ◌+◌, List, [], ◌∷◌, ◌++◌, map}
use Rattle.std.proofs.lemmas.List.{map_push}
use Rattle.std.proofs.lemmas.List.Sums.{sum_by_push}
use Rattle.std.specs.List.{sum}
use Rattle.meaning_script.specs.Pieces.{text_units}

pub texts_last : (texts : List (List ℕ)) (text : List ℕ) → sum (map text_units (texts ++ text ∷ [])) ≡ sum (map text_units texts) + text_units text
texts_last texts text = ap sum (map_push text_units texts text) ∙ sum_by_push (λ n. n) (map text_units texts) (text_units text)
