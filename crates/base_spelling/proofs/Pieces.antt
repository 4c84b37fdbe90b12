-- Pieces that are put one after the other.
use Rattle.std.proofs.Common.{◌≡◌, ℕ, List, ◌++◌, append_assoc}

pub two : (out a b : List ℕ) → (out ++ a) ++ b ≡ out ++ (a ++ b)
two out a b = append_assoc out a b

pub three : (out a b c : List ℕ) → ((out ++ a) ++ b) ++ c ≡ out ++ ((a ++ b) ++ c)
three out a b c = simp append_assoc
