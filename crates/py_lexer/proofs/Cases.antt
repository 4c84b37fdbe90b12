-- Cases of what a reader does.
use Rattle.std.proofs.Common.{◌≡◌, Bool, true, false, Option, Some, None, refl}
use Rattle.std.specs.Prelude.{if◌then◌else◌}
use Rattle.py_lexer.specs.Reading.{◌>>=◌}

pub choice : {A : Type 0} (P : A → Type 0) (x y : A) (b : Bool) → (b ≡ true → P x) → (b ≡ false → P y) → P (if b then x else y)
choice P x y true f g = f refl
choice P x y false f g = g refl

pub option_cases : {A B : Type 0} (P : B → Type 0) (none : B) (some : A → B) (o : Option A) → (o ≡ None → P none) → ((a : A) → o ≡ Some a → P (some a)) → P (elim o [ None ↦ none | Some a ↦ some a ])
option_cases P none some None f g = f refl
option_cases P none some (Some a) f g = g a refl
