-- Lists of exactly so many items.
use Rattle.std.proofs.Common.{◌≡◌, List, [], ◌∷◌, Some, sym, ap}
use Rattle.std.proofs.lemmas.Option.{same_Some}
use Rattle.py_frames.specs.Few.{only}

pub only_is : {X : Type 0} (xs : List X) (x : X) → Some x ≡ only xs → xs ≡ x ∷ []
only_is [] x is = cc
only_is (a ∷ []) x is = ap (λ y. y ∷ []) (sym (same_Some x a is))
only_is (a ∷ b ∷ xs) x is = cc
