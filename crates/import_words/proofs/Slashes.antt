-- What stands before the last slash.
use Rattle.std.proofs.Common.{◌≡◌, refl, ℕ, List, [], ◌∷◌, ◌++◌, Some, None, false, suc, arith}
use Rattle.std.specs.Prelude.{◌==◌}
use Rattle.std.specs.List.{All}
use Rattle.import_words.specs.Plans.{before_last_slash}

abbrev pub NoSlash : List ℕ → Type 0
NoSlash text = All (λ b. (b == 47) ≡ false) text

later : (b : ℕ) (bs : List ℕ) → NoSlash (b ∷ bs) → NoSlash bs
later b bs h k d low = h (suc k) d (omega arith)

pub no_slash : (text : List ℕ) → NoSlash text → before_last_slash text ≡ None
no_slash [] h = refl
no_slash (b ∷ bs) h = rw (no_slash bs (later b bs h), h 0 0 (omega arith)) refl

pub last_slash : (front tail : List ℕ) → NoSlash tail → before_last_slash (front ++ 47 ∷ tail) ≡ Some front
last_slash [] tail h = rw (no_slash tail h) refl
last_slash (b ∷ bs) tail h = rw (last_slash bs tail h) refl
