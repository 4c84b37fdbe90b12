-- One turn of a first use.
use Rattle.std.proofs.Common.{◌≡◌, ℕ, zero, suc, ◌-◌, ◌<◌, ap, arith}
use Rattle.py_value.specs.declared.value.ModRef.{ModRef}
use Rattle.machine_events.specs.declared.event.Event.TheVariants as e
use Rattle.meaning_state.specs.declared.thread.State.{State}
use Rattle.meaning_script.specs.Pieces.{Onward, calls}
use Rattle.meaning_script.specs.Lazy.{Body, rouses, rousing}

pub rouses_more : (body : Body) (turns : ℕ) (m : ModRef) (s : State) (k : Onward) → 0 < turns
    → rouses body turns m s k ≡ calls (e.Rouse m.mid) (λ reply. rousing body (rouses body (turns - 1) m) m reply s k)
rouses_more body zero m s k some = absurd (omega (arith, some))
rouses_more body (suc turns) m s k some =
    let same : turns ≡ suc turns - 1 = omega arith in
    ap (λ (n : ℕ). calls (e.Rouse m.mid) (λ reply. rousing body (rouses body n m) m reply s k)) same
