-- Functions that ask for an attribute, by the number of their arguments.
use Rattle.std.proofs.Common.{◌≡◌, ◌≢◌, ℕ, List, [], ◌∷◌, ◌++◌, length, refl, ap, arith, length-append}
use Rattle.py_value.specs.declared.value.Value.{Value}
use Rattle.meaning_script.specs.Calls.{hasattr_call, getattr_call}
use Rattle.meaning_script.specs.Meaning.{World}
use Rattle.step_calls.specs.Around.{access_at}
use Rattle.py_frames.specs.Few.{pair}
use Rattle.step_calls.specs.Asking.{asks_whether, asks_for, asks_or}

pub hasattr_is : (w : World) (d : ℕ) (vs : List Value) → hasattr_call (access_at w d) vs ≡ asks_whether w d (pair vs)
hasattr_is w d [] = refl
hasattr_is w d (a ∷ []) = refl
hasattr_is w d (a ∷ b ∷ []) = refl
hasattr_is w d (a ∷ b ∷ c ∷ vs) = refl

pub getattr_is : (w : World) (d : ℕ) (vs : List Value) → length vs ≢ 3
    → getattr_call (access_at w d) vs ≡ asks_for w d (pair vs)
getattr_is w d [] other = refl
getattr_is w d (a ∷ []) other = refl
getattr_is w d (a ∷ b ∷ []) other = refl
getattr_is w d (a ∷ b ∷ c ∷ []) other = absurd (other refl)
getattr_is w d (a ∷ b ∷ c ∷ x ∷ vs) other = refl

-- with one behind two
pub getattr_or : (w : World) (d : ℕ) (vs all : List Value) (x : Value) → all ≡ vs ++ x ∷ [] → length all ≡ 3
    → getattr_call (access_at w d) all ≡ asks_or w d (pair vs) x
getattr_or w d [] all x is three = absurd (omega (arith, three, ap length is))
getattr_or w d (a ∷ []) all x is three = absurd (omega (arith, three, ap length is))
getattr_or w d (a ∷ b ∷ []) all x is three = ap (getattr_call (access_at w d)) is
getattr_or w d (a ∷ b ∷ c ∷ vs) all x is three = absurd (omega (arith, three, ap length is, length-append vs (x ∷ [])))
