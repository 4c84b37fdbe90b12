-- One turn of a reload.
use Rattle.std.proofs.Common.{◌≡◌, ℕ, zero, suc, ◌-◌, ◌<◌, ap, arith}
use Rattle.py_value.specs.declared.value.ModRef.{ModRef}
use Rattle.machine_events.specs.declared.event.Event.TheVariants as e
use Rattle.meaning_state.specs.declared.thread.State.{State}
use Rattle.meaning_script.specs.Pieces.{Onward, calls}
use Rattle.meaning_script.specs.Imports.{Inside}
use Rattle.meaning_script.specs.Reload.{Finding, spec_found, text_found, took, retakes}

pub retakes_more : (inside : Inside) (turns : ℕ) (m : ModRef) (epoch : ℕ) (finding : Finding) (s : State) (k : Onward) → 0 < turns
    → retakes inside turns m epoch finding s k
    ≡ calls (e.ReloadTake m.mid (spec_found m finding) (text_found finding))
    (λ reply. took inside (retakes inside (turns - 1) m epoch finding) m epoch finding reply s k)
retakes_more inside zero m epoch finding s k some = absurd (omega (arith, some))
retakes_more inside (suc turns) m epoch finding s k some =
    let same : turns ≡ suc turns - 1 = omega arith in
    ap (λ (n : ℕ). calls (e.ReloadTake m.mid (spec_found m finding) (text_found finding))
    (λ reply. took inside (retakes inside n m epoch finding) m epoch finding reply s k)) same
