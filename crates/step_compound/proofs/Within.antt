-- Which kinds an `except` takes.
use Rattle.std.proofs.Common.{◌≡◌, ◌∙◌, refl, sym, ap, ℕ, zero, suc, ◌-◌, ◌<◌, List, [], ◌∷◌, ◌++◌, Option, Some, None, Bool, true, false, if◌then◌else◌, arith}
use Rattle.std.specs.Str.{bytes_eq}
use Rattle.py_value.specs.Kinds.{parent}
use Rattle.py_value.specs.Names.{kind_name}
use Rattle.py_value.specs.declared.kind.Kind.{Kind}
use Rattle.py_value.specs.declared.value.Value.{Value, out-Value}
use Rattle.meaning_script.specs.Statements.{is_within, either, kind_at, takes_any, takes_kind}

pub within_more : (n : ℕ) (kind other : Kind) → 0 < n
    → is_within n (Some kind) other ≡ (if bytes_eq (kind_name kind) (kind_name other) then true else is_within (n - 1) (parent kind) other)
within_more zero kind other h = absurd (omega (arith, h))
within_more (suc n) kind other h =
    let less : n ≡ suc n - 1 = omega arith in
    ap (λ (m : ℕ). if bytes_eq (kind_name kind) (kind_name other) then true else is_within m (parent kind) other) less

pub either_both : (x y z : Option Bool) → either (either x y) z ≡ either x (either y z)
either_both None y z = refl
either_both (Some a) None z = refl
either_both (Some a) (Some b) None = refl
either_both (Some true) (Some b) (Some c) = refl
either_both (Some false) (Some b) (Some c) = refl

pub either_first : (x : Option Bool) → either (Some false) x ≡ x
either_first None = refl
either_first (Some a) = refl

pub either_last : (x : Option Bool) → either x (Some false) ≡ x
either_last None = refl
either_last (Some true) = refl
either_last (Some false) = refl

-- one more kind
pub takes_more : (kind : Kind) (vs : List Value) (v : Value) → takes_any kind (vs ++ v ∷ []) ≡ either (takes_any kind vs) (takes_kind kind (kind_at (out-Value v)))
takes_more kind [] v = either_last (takes_kind kind (kind_at (out-Value v))) ∙ sym (either_first (takes_kind kind (kind_at (out-Value v))))
takes_more kind (x ∷ vs) v =
    ap (either (takes_kind kind (kind_at (out-Value x)))) (takes_more kind vs v)
    ∙ sym (either_both (takes_kind kind (kind_at (out-Value x))) (takes_any kind vs) (takes_kind kind (kind_at (out-Value v))))
