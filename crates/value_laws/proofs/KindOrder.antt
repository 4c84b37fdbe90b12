-- The kinds are ordered.
use Rattle.std.proofs.Common.{◌≡◌, ◌∙◌, ℕ, zero, suc, ◌+◌, ◌<◌, ◌-◌, Option, Some, None, refl, sym, ap, arith, inl, inr}
use Rattle.std.proofs.lemmas.Bool.{cases_lt}
use Rattle.std.specs.Prelude.{option_and_then}
use Rattle.py_value.specs.declared.kind.Kind.{Kind}
use Rattle.py_value.specs.declared.kind.Kind.TheVariants as kinds
use Rattle.py_value.specs.Kinds.{parent, up, IsA}
use Rattle.value_laws.specs.Laws.{IsOrder, StandsApart}

four : (kind : Kind) → up 4 kind ≡ None
four kinds.BaseException = refl
four kinds.Exception = refl
four kinds.ArithmeticError = refl
four kinds.ZeroDivisionError = refl
four kinds.AttributeError = refl
four kinds.ImportError = refl
four kinds.ModuleNotFoundError = refl
four kinds.LookupError = refl
four kinds.IndexError = refl
four kinds.KeyError = refl
four kinds.NameError = refl
four kinds.UnboundLocalError = refl
four kinds.RuntimeError = refl
four kinds.RecursionError = refl
four kinds.DeadlockError = refl
four kinds.SyntaxError = refl
four kinds.TypeError = refl
four kinds.ValueError = refl
four kinds.ProfileError = refl

-- so many steps more
onward : (a b : Kind) (m n : ℕ) → up m a ≡ Some b → up (n + m) a ≡ up n b
onward a b m zero h = ap (λ k. up k a) (let e : 0 + m ≡ m = omega arith in e) ∙ h
onward a b m (suc n) h =
    ap (λ k. up k a) (let e : suc n + m ≡ suc (n + m) = omega arith in e) ∙ ap (option_and_then parent) (onward a b m n h)

ended : (kind : Kind) (n more : ℕ) → up n kind ≡ None → up (more + n) kind ≡ None
ended kind n zero h = ap (λ k. up k kind) (let e : 0 + n ≡ n = omega arith in e) ∙ h
ended kind n (suc more) h =
    ap (λ k. up k kind) (let e : suc more + n ≡ suc (more + n) = omega arith in e) ∙ ap (option_and_then parent) (ended kind n more h)

above : (a b c : Kind) → IsA a b → IsA b c → IsA a c
above a b c p q = (q.0 + p.0, onward a b p.0 q.0 p.1 ∙ q.1)

-- a way up that comes back has no step, since no way up has four
no_round : (kind : Kind) (n : ℕ) → 0 < n → up n kind ≡ Some kind → ⊥
no_round kind n more h =
    let two : up (n + n) kind ≡ Some kind = onward kind kind n n h ∙ h in
    let far : up (n + n + (n + n)) kind ≡ Some kind = onward kind kind (n + n) (n + n) two ∙ two in
    let past : up (n + n + (n + n)) kind ≡ None =
    ap (λ k. up k kind) (let e : n + n + (n + n) ≡ (n + n + (n + n) - 4) + 4 = omega arith in e) ∙ ended kind 4 (n + n + (n + n) - 4) (four kind)
    in
    let no : Some kind ≡ None = sym far ∙ past in
    cc

apart : (a b : Kind) → IsA a b → IsA b a → a ≡ b
apart a b p q = elim (cases_lt 0 p.0) [
  | inl more ↦ absurd (no_round a (q.0 + p.0) (omega arith) (onward a b p.0 q.0 p.1 ∙ q.1))
  | inr none ↦
      let same : Some a ≡ Some b = ap (λ n. up n a) (let e : 0 ≡ p.0 = omega arith in e) ∙ p.1 in
      cc
]

pub ordered : IsOrder
ordered = record { itself = λ kind. (0, refl); above = above; apart = apart }

below_profile : (kind : Kind) → IsA kinds.ProfileError kind → kind ≡ kinds.ProfileError
below_profile kind p = elim (cases_lt 0 p.0) [
  | inl more ↦
      let past : up p.0 kinds.ProfileError ≡ None =
      ap (λ k. up k kinds.ProfileError) (let e : p.0 ≡ (p.0 - 1) + 1 = omega arith in e) ∙ ended kinds.ProfileError 1 (p.0 - 1) refl
      in
      let no : Some kind ≡ None = sym p.1 ∙ past in
      cc
  | inr none ↦
      let same : Some kinds.ProfileError ≡ Some kind = ap (λ n. up n kinds.ProfileError) (let e : 0 ≡ p.0 = omega arith in e) ∙ p.1 in
      cc
]

no_child : (kind : Kind) → parent kind ≡ Some kinds.ProfileError → ⊥
no_child kinds.BaseException h = cc
no_child kinds.Exception h = cc
no_child kinds.ArithmeticError h = cc
no_child kinds.ZeroDivisionError h = cc
no_child kinds.AttributeError h = cc
no_child kinds.ImportError h = cc
no_child kinds.ModuleNotFoundError h = cc
no_child kinds.LookupError h = cc
no_child kinds.IndexError h = cc
no_child kinds.KeyError h = cc
no_child kinds.NameError h = cc
no_child kinds.UnboundLocalError h = cc
no_child kinds.RuntimeError h = cc
no_child kinds.RecursionError h = cc
no_child kinds.DeadlockError h = cc
no_child kinds.SyntaxError h = cc
no_child kinds.TypeError h = cc
no_child kinds.ValueError h = cc
no_child kinds.ProfileError h = cc

last_step : (before : Option Kind) → option_and_then parent before ≡ Some kinds.ProfileError → ⊥
last_step None h = cc
last_step (Some kind) h = no_child kind h

above_profile : (kind : Kind) (n : ℕ) → up n kind ≡ Some kinds.ProfileError → kind ≡ kinds.ProfileError
above_profile kind zero h = cc
above_profile kind (suc n) h = absurd (last_step (up n kind) h)

pub stands : StandsApart
stands = record { below = below_profile; above = λ kind p. above_profile kind p.0 p.1 }
