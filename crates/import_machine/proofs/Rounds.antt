-- How the test that all earlier threads have ended goes on by one thread.
use Rattle.std.proofs.Common.{◌≡◌, ℕ, zero, suc, ◌+◌, ◌<◌, true, false, ap, ◌∙◌, arith}
use Rattle.std.specs.Prelude.{◌&&◌}
use Rattle.machine_spec.specs.declared.state.State.{State}
use Rattle.machine_spec.specs.Allowed.{has_ended, all_ended}

pub all_more : (s : State) (n : ℕ) → all_ended s n ≡ true → has_ended s n ≡ true → all_ended s (n + 1) ≡ true
all_more s n h is =
    let one : n + 1 ≡ suc n = omega arith in
    ap (all_ended s) one ∙ ap (λ b. b && all_ended s n) is ∙ h

pub all_less : (s : State) (n m : ℕ) → n < m → has_ended s n ≡ false → all_ended s m ≡ false
all_less s n zero less is = absurd (omega arith)
all_less s n (suc m) less is = grind (arith, all_less s n m)
