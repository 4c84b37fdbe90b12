-- The operands from a place on.
use Rattle.std.proofs.Common.{◌≡◌, ℕ, suc, List, [], ◌∷◌, ◌++◌, ◌+◌, drop, length, length-append, ap, ◌∙◌, arith}
pub use Rattle.py_frames.proofs.Places.{drop_some}

grown : (n : ℕ) → n + 1 ≡ suc n
grown n = omega arith

-- a value more
pub drop_more : {X V : Type 0} (xs : List X) (vs : List V) (v : V) → drop (length (vs ++ v ∷ [])) xs ≡ drop (suc (length vs)) xs
drop_more xs vs v =
    let one_more : length (vs ++ v ∷ []) ≡ suc (length vs) = length-append vs (v ∷ []) ∙ grown (length vs) in
    ap (λ n. drop n xs) one_more
