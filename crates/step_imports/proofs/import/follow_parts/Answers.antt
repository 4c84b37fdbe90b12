use Rattle.std.proofs.Common.{◌≡◌, ◌∙◌, sym, ap, List, Some, slice_get}
use Rattle.py_syntax.specs.declared.stmt.Stmt.{Stmt}
use Rattle.meaning_state.specs.declared.fault.Fault.TheVariants as fault
use Rattle.meaning_script.specs.Pieces.{fails}
use Rattle.meaning_script.specs.Meaning.{around_at}
use Rattle.py_frames.specs.Does.{aliases_of, follows_some, frame_does, pieces}
use Rattle.py_frames.specs.declared.work.Frame.TheVariants as frames
use Rattle.meaning_script.specs.ImportStatements.{name_of, with_module}
use Rattle.py_frames.proofs.Lifts.{lifted}
use Rattle.step_imports.proofs.Parts.{follows_none, follows_ends, follows_step, lifted_run}
use Rattle.step_imports.proofs.import.follow_parts.Goals as goal

pub returns-in_default : goal.returns-in_default
returns-in_default c =
    let o = slice_get (aliases_of (slice_get c.args.stmts.now c.args.at)) c.args.place in
    let none = ap (λ (ss : List Stmt). slice_get (aliases_of (slice_get ss c.args.at)) c.args.place) (sym c.get.ensures) ∙ sym c.in_default.ensures in
    lifted c.args.thread.now (λ w d. fails fault.NotInProfile) (λ w d. follows_some (around_at w d) c.args.part o c.args.value) c.fail.result
    (λ w d s k. follows_none (around_at w d) c.args.part o c.args.value s k none) c.fail.ensures

pub returns-in_default-get : goal.returns-in_default-get
returns-in_default-get c =
    let th = c.args.thread.now in
    let b = c.in-Some.alias.now in
    let o = slice_get (aliases_of (slice_get c.args.stmts.now c.args.at)) c.args.place in
    let is : o ≡ Some b = ap (λ (ss : List Stmt). slice_get (aliases_of (slice_get ss c.args.at)) c.args.place) (sym c.get.ensures) ∙ sym c.in-Some.ensures in
    record { does = λ w next. rw c.in_ok-name.ensures (follows_ends (around_at w th.left) o b c.args.part c.in-Some-bound.bound c.args.value th.state (next th.left) is c.in-Some-bound.is (sym c.in_default-get.ensures.value)) }

pub returns : goal.returns
returns c =
    let th = c.args.thread.now in
    let b = c.in-Some.alias.now in
    let v = c.args.value in
    let x = c.in_ok-own_name.own_name in
    let last = c.is_last-is_bound.result in
    let far = c.next_place-following.result in
    let found = λ (ss : List Stmt). slice_get (aliases_of (slice_get ss c.args.at)) c.args.place in
    let is : found c.args.stmts.now ≡ Some b = ap found (sym c.get.ensures) ∙ sym c.in-Some.ensures in
    let named : slice_get b.parts c.args.part ≡ Some x = sym c.in-Some-get.ensures.value ∙ ap Some (sym c.in_ok-own_name.ensures) in
    lifted_run th
    (λ w next. with_module v (λ m s k. name_of (around_at w th.left) last m x s (frame_does w th.left (frames.Parts c.in_ok-block.block c.args.at c.args.place far) next)) th.state (next th.left))
    (pieces (λ w d. follows_some (around_at w d) c.args.part (found c.args.stmts.now) v) th) c.part_then.result
    (λ w next. follows_step (around_at w th.left) (found c.args.stmts.now) (found c.in_ok-block.block) b c.args.part far x c.in-Some-bound.bound last v th.state (next th.left) (ap found c.in_ok-block.ensures) c.next_place-following.ensures is c.in-Some-bound.is named c.is_last-is_bound.ensures)
    c.part_then.ensures
