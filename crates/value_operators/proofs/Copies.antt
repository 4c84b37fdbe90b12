-- How long a repeated text is, and that what is within the limits stays as it is.
use Rattle.std.proofs.Common.{◌≡◌, ◌∙◌, ap, refl, ℕ, zero, suc, ◌*◌, ◌/◌, ◌<◌, ◌≤◌, List, [], ◌∷◌, ◌++◌, length, arith, rules, codes}
use Rattle.std.proofs.lemmas.Grind.{common_steps}
use Rattle.std.proofs.Math.Nat.{div-lt_iff_lt-mul, le-div_iff_mul-le}
use Rattle.py_value.specs.declared.value.Value.{the_lemmas}
use Rattle.py_value.specs.declared.value.Value.TheVariants as values
use Rattle.py_value.specs.declared.operator.Applied.TheVariants as applied
use Rattle.value_operators.specs.Outcomes.{limited, profile_error}
use Rattle.value_operators.specs.Arithmetic.{copies}

pub length-copies : (n : ℕ) (text : List ℕ) → length (copies n text) ≡ n * length text
length-copies zero text = omega arith
length-copies (suc n) text = let rest = length-copies n text in grind (arith, common_steps)

empty_text : (text : List ℕ) → length text ≡ 0 → text ≡ []
empty_text [] e = refl
empty_text (b ∷ text) e = absurd (omega arith)

no_bytes : (n : ℕ) → copies n [] ≡ []
no_bytes zero = refl
no_bytes (suc n) = ap (λ t. t ++ []) (no_bytes n)

pub copies-empty : (n : ℕ) (text : List ℕ) → length text ≡ 0 → copies n text ≡ []
copies-empty n text e = ap (copies n) (empty_text text e) ∙ no_bytes n

pub limited-text : (text : List ℕ) → length text ≤ 65536 → limited (values.Text text) ≡ applied.Value (values.Text text)
limited-text text h = search (rules, the_lemmas)

pub limited-long_text : (text : List ℕ) → 65536 < length text → limited (values.Text text) ≡ profile_error (codes "text too long")
limited-long_text text h = search (rules, the_lemmas)

-- more copies than fit
pub too_many : (n : ℕ) (text : List ℕ) → 0 < length text → 65536 / length text < n → limited (values.Text (copies n text)) ≡ profile_error (codes "text too long")
too_many n text some h =
    let long : 65536 < n * length text = (div-lt_iff_lt-mul some).0 h in
    let len = length-copies n text in
    limited-long_text (copies n text) (omega arith)

pub few : (n : ℕ) (text : List ℕ) → 0 < length text → n ≤ 65536 / length text → limited (values.Text (copies n text)) ≡ applied.Value (values.Text (copies n text))
few n text some h =
    let short : n * length text ≤ 65536 = (le-div_iff_mul-le some).0 h in
    let len = length-copies n text in
    limited-text (copies n text) (omega arith)
