use Rattle.std.proofs.Common.{◌∙◌, sym, ap, List, slice_get}
use Rattle.py_syntax.specs.declared.stmt.Stmt.{Stmt}
use Rattle.meaning_state.specs.declared.fault.Fault.TheVariants as fault
use Rattle.meaning_script.specs.Pieces.{fails}
use Rattle.meaning_script.specs.Meaning.{around_at}
use Rattle.py_frames.specs.Does.{aliases_of, fronts_some}
use Rattle.step_imports.specs.Parts.{front_of}
use Rattle.py_frames.proofs.Lifts.{lifted}
use Rattle.step_imports.proofs.Parts.{fronts_none, fronts_is}
use Rattle.step_imports.proofs.import.import_front.Goals as goal

pub returns-in-None : goal.returns-in-None
returns-in-None c =
    let o = slice_get (aliases_of (slice_get c.args.stmts c.args.at)) c.args.place in
    let none = ap (λ (ss : List Stmt). front_of (slice_get (aliases_of (slice_get ss c.args.at)) c.args.place)) (sym c.get.ensures) ∙ sym c.in-None.ensures in
    lifted c.args.thread.now (λ w d. fails fault.NotInProfile) (λ w d. fronts_some (around_at w d) o) c.fail.result
    (λ w d s k. fronts_none (around_at w d) o s k none) c.fail.ensures

pub returns : goal.returns
returns c =
    let th = c.args.thread.now in
    let o = slice_get (aliases_of (slice_get c.args.stmts c.args.at)) c.args.place in
    let some = ap (λ (ss : List Stmt). front_of (slice_get (aliases_of (slice_get ss c.args.at)) c.args.place)) (sym c.get.ensures) ∙ sym c.in-Some.ensures in
    record { does = λ w next. rw c.in_ok-name-in-Some.ensures (fronts_is (around_at w th.left) o c.in-Some.front.now th.state (next th.left) some) }
