-- A procedure that is fed goes on by what it wants then.
use Rattle.std.proofs.Common.{◌≡◌, ◌∙◌, ap, subst, ℕ, Bool, Result, Ok, Err, IfOk}
use Rattle.find_load.specs.Means.{GoesOn, wants}
use Rattle.find_load.specs.declared.words.In.{In}
use Rattle.find_load.specs.declared.words.Want.{Want as Wanted}
use Rattle.meaning_state.specs.declared.thread.Thread.{Thread}
use Rattle.meaning_script.specs.Pieces.{Piece}
use Rattle.meaning_script.specs.Imports.{Inside}
use Rattle.meaning_script.specs.Meaning.{World}
use Rattle.py_frames.specs.Does.{Does, pieces, fed}
use Rattle.py_frames.specs.declared.procedures.Procedure.{Procedure}
use Rattle.py_frames.specs.declared.want.Want.{Want}
use Rattle.step_imports.specs.Waiting.{inside_by, lifts}

-- what an open procedure of a kind means is what it means by itself, whatever it is fed
abbrev IsFed : {P : Type 0} → Bool → (Inside → P → In → Piece) → (P → Procedure) → Type 0
IsFed is_parent means held = (w : World) (d : ℕ) (p : _) (input : In) → fed w d (held p) input ≡ means (inside_by w d is_parent) p input

pub step_fed : {E P : Type 0} (is_parent : Bool) (means : Inside → P → In → Piece) (held : P → Procedure) (th : Thread) (owned before after : P) (input : In)
    (wanted : Wanted) (result : Result Want E)
    → IsFed is_parent means held → before ≡ owned
    → GoesOn (λ inside. means inside before input) (λ inside. means inside after) wanted
    → IfOk result (Does th (pieces (λ w d. wants (inside_by w d is_parent) wanted (fed w d (held after))) th))
    → IfOk result (Does th (pieces (λ w d. means (inside_by w d is_parent) owned input) th))
step_fed is_parent means held th owned before after input wanted (Ok r) is_fed same goes lifted =
    record {
      does = λ w next.
          let as_fed : fed w th.left (held after) ≡ means (inside_by w th.left is_parent) after = λ i given. is_fed w th.left after given i in
          lifted.does w next
          ∙ ap (λ go. wants (inside_by w th.left is_parent) wanted go th.state (next th.left)) as_fed
          ∙ goes (inside_by w th.left is_parent) th.state (next th.left)
          ∙ ap (λ p. means (inside_by w th.left is_parent) p input th.state (next th.left)) same;
    }
step_fed is_parent means held th owned before after input wanted (Err e) is_fed same goes lifted = tt

-- what is lifted of equal procedures
pub lifted_as : {E : Type 0} (th : Thread) (wanted : Wanted) (result : Result Want E) (b b' : Bool) (p p' : Procedure) → b ≡ b' → p ≡ p'
    → IfOk result (Does th (pieces (λ w d. lifts w d b wanted p) th)) → IfOk result (Does th (pieces (λ w d. lifts w d b' wanted p') th))
lifted_as th wanted result b b' p p' same is =
    subst (λ (at : Bool × Procedure). IfOk result (Does th (pieces (λ w d. lifts w d at.0 wanted at.1) th))) (λ i. (same i, is i))
