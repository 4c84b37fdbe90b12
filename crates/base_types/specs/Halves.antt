-- A signed number of 128 bits as the halves of its two's complement.
use Rattle.std.specs.Prelude.{◌≡◌, ℕ, ℤ, ◌+◌, ◌*◌, ◌/◌, ◌%◌, ◌^◌, ◌<◌}
use Rattle.std.specs.Int.{cast_signed, cast_unsigned}
use Rattle.std.proofs.Common.{arith, ap, ◌∙◌}
use Rattle.std.proofs.lemmas.Int.{of_z-to_z}
use Rattle.std.proofs.lemmas.Nat.{div-mul-add, mod-mul-add}
use mir.Syntax.{w128}
use Rattle.base_types.specs.declared.wide.Wide.TheInside.{Inside}

-- the number whose two's complement the halves are
abbrev pub number : Inside → ℤ
number w = cast_signed w128 (w.high * 2 ^ 64 + w.low)

-- each half has 64 bits
abbrev pub AreHalves : Inside → Type 0
AreHalves w = (w.high < 2 ^ 64) × (w.low < 2 ^ 64)

-- the halves of a number's two's complement
abbrev pub halves : ℤ → Inside
halves z = record { high = cast_unsigned w128 z / 2 ^ 64; low = cast_unsigned w128 z % 2 ^ 64 }

-- so the halves of a number lead back to it
pub halves-number : (w : Inside) → AreHalves w → halves (number w) ≡ w
halves-number w fit =
    ap (λ n. record { high = n / 2 ^ 64; low = n % 2 ^ 64 }) (of_z-to_z w128 (w.high * 2 ^ 64 + w.low) (omega (arith, fit.0, fit.1)))
    ∙ ap (λ h. record { high = h; low = (w.high * 2 ^ 64 + w.low) % 2 ^ 64 }) (div-mul-add w.high (2 ^ 64) w.low fit.1)
    ∙ ap (λ l. record { high = w.high; low = l }) (mod-mul-add w.high (2 ^ 64) w.low fit.1)
