-- A step that does what a piece says does what an equal piece says.
use Rattle.std.proofs.Common.{◌≡◌, ◌∙◌, ap, Result, Ok, Err, IfOk}
use Rattle.meaning_state.specs.declared.thread.Thread.{Thread}
use Rattle.meaning_script.specs.Pieces.{Piece}
use Rattle.py_frames.specs.Does.{Does, pieces}
use Rattle.py_frames.specs.declared.want.Want.{Want}

pub lifted : {E : Type 0} (after before : Thread) (p q : Piece) (result : Result Want E) → p ≡ q → IfOk result (Does after (pieces (λ w d. p) before)) → IfOk result (Does after (pieces (λ w d. q) before))
lifted after before p q (Ok want) same does = record { does = λ w next. does.does w next ∙ ap (λ (r : Piece). r before.state (next before.left)) same }
lifted after before p q (Err e) same does = tt
