-- Where one more body may be open.
use Rattle.std.proofs.Common.{◌≡◌, ℕ, zero, suc, ◌-◌, ◌<◌, List, ap, refl, arith}
use Rattle.meaning_state.specs.declared.thread.Parsing.{Parsing}
use Rattle.meaning_state.specs.declared.thread.State.{State}
use Rattle.meaning_script.specs.Pieces.{Onward, pay, text_units}
use Rattle.meaning_script.specs.Meaning.{World, around_at, bodies_at, starts}
use Rattle.step_calls.specs.BodyDepth.{starts_at}
use Rattle.py_frames.specs.Does.{begins_at}

pub bodies_more : (w : World) (left mid load : ℕ) (n text : List ℕ) (s : State) (k : Onward) → 0 < left
    → bodies_at w left mid load n text s k ≡ pay (text_units text) (begins_at w left mid load n text s k)
bodies_more w zero mid load n text s k some = absurd (omega (arith, some))
bodies_more w (suc left) mid load n text s k some = refl

pub starts_more : (w : World) (left mid load : ℕ) (n : List ℕ) (parsing : Parsing) → 0 < left
    → starts_at w left mid load n parsing ≡ starts (around_at w (left - 1)) mid load n parsing
starts_more w zero mid load n parsing some = absurd (omega (arith, some))
starts_more w (suc left) mid load n parsing some =
    let same : left ≡ suc left - 1 = omega arith in
    ap (λ m. starts (around_at w m) mid load n parsing) same
