-- A step that does what a piece says does what an equal piece says.
use Rattle.std.proofs.Common.{◌≡◌, ◌∙◌, ℕ, Result, Ok, Err, IfOk}
use Rattle.py_value.specs.declared.value.Value.TheVariants as values
use Rattle.meaning_state.specs.declared.thread.State.{State}
use Rattle.meaning_state.specs.declared.thread.Thread.{Thread}
use Rattle.meaning_script.specs.Pieces.{Piece, Onward}
use Rattle.meaning_script.specs.Meaning.{World}
use Rattle.py_frames.specs.Does.{Does, pieces}
use Rattle.py_frames.specs.declared.want.Want.{Want}

-- where they are equal in the thread's state
pub lifted_at : {E : Type 0} (th : Thread) (p q : World → ℕ → Piece) (result : Result Want E)
    → ((w : World) (d : ℕ) (k : Onward) → p w d th.state k ≡ q w d th.state k)
    → IfOk result (Does th (pieces p th)) → IfOk result (Does th (pieces q th))
lifted_at th p q (Ok want) same does = record { does = λ w next. does.does w next ∙ same w th.left (next th.left) }
lifted_at th p q (Err e) same does = tt

pub lifted : {E : Type 0} (th : Thread) (p q : World → ℕ → Piece) (result : Result Want E)
    → ((w : World) (d : ℕ) (s : State) (k : Onward) → p w d s k ≡ q w d s k)
    → IfOk result (Does th (pieces p th)) → IfOk result (Does th (pieces q th))
lifted th p q result same does = lifted_at th p q result (λ w d k. same w d th.state k) does
