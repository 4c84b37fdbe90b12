-- One turn of an import.
use Rattle.std.proofs.Common.{◌≡◌, ℕ, zero, suc, ◌-◌, ◌<◌, List, Bool, false, ap, arith}
use Rattle.machine_events.specs.declared.event.Event.TheVariants as e
use Rattle.meaning_state.specs.declared.thread.State.{State}
use Rattle.meaning_script.specs.Pieces.{Onward, calls}
use Rattle.meaning_script.specs.Imports.{Inside, asks, asked, misses}

pub asks_more : (inside : Inside) (turns : ℕ) (is_parent : Bool) (n : List ℕ) (s : State) (k : Onward) → 0 < turns
    → asks inside turns is_parent n s k ≡ calls (e.Ask n) (λ reply. asked (asks inside (turns - 1) false n) (misses inside (asks inside (turns - 1) false n) n) is_parent n reply s k)
asks_more inside zero is_parent n s k some = absurd (omega (arith, some))
asks_more inside (suc turns) is_parent n s k some =
    let same : turns ≡ suc turns - 1 = omega arith in
    ap (λ (m : ℕ). calls (e.Ask n) (λ reply. asked (asks inside m false n) (misses inside (asks inside m false n) n) is_parent n reply s k)) same
