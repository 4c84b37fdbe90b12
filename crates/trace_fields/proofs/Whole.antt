-- Signed numbers and levels.
use Rattle.std.proofs.Common.{◌≡◌, ◌∙◌, refl, sym, ap, subst, ℕ, zero, suc, ◌-◌, ◌+◌, ◌<◌, ◌≤◌, List, Option, arith}
use Rattle.py_value.specs.declared.value.Value.{Value}
use Rattle.trace_fields.specs.Values.{plain_in, nested, value_in}

pub value_flat : (n : ℕ) (field : List ℕ) → n ≡ 0 → plain_in field ≡ value_in n field
unfolding value_in
value_flat zero field h = refl
value_flat (suc n) field h = absurd (omega arith)

pub value_deep : (n : ℕ) (field : List ℕ) → (n ≡ 0 → ⊥) → nested (value_in (n - 1)) field ≡ value_in n field
unfolding value_in
value_deep zero field h = absurd (h refl)
value_deep (suc n) field h = let there : suc n - 1 ≡ n = omega arith in ap (λ m. nested (value_in m) field) there
