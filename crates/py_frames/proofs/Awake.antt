-- An access that is made again once its module is awake.
use Rattle.std.proofs.Common.{◌≡◌, ℕ, Result, IfOk}
use Rattle.py_value.specs.declared.value.ModRef.{ModRef}
use Rattle.machine_events.specs.declared.event.Event.{Event}
use Rattle.meaning_state.specs.declared.thread.Thread.{Thread}
use Rattle.meaning_script.specs.Meaning.{World, around_at}
use Rattle.meaning_script.specs.Pieces.{Piece, calls, on_value}
use Rattle.py_frames.specs.Does.{Does, pieces, reply_piece}
use Rattle.py_frames.specs.declared.replies.OnReply.{OnReply}
use Rattle.py_frames.specs.declared.want.Want.{Want}

abbrev pub again : ModRef → Event → OnReply → World → ℕ → Piece
again m raw o w d s k = (around_at w d).access.roused m s (on_value k (λ _ s. calls raw (λ r. reply_piece w d o r s k)))

pub awake_again : {E : Type 0} (th : Thread) (m lazy : ModRef) (event raw : Event) (o on : OnReply) (result : Result Want E)
    → lazy ≡ m → event ≡ raw → o ≡ on
    → IfOk result (Does th (pieces (again lazy event o) th)) → IfOk result (Does th (pieces (again m raw on) th))
awake_again th m lazy event raw o on result same read answered does = rw (← same, ← read, ← answered) does
