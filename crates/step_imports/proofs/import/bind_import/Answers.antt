use Rattle.std.proofs.Common.{◌∙◌, sym, ap, List, slice_get}
use Rattle.py_syntax.specs.declared.stmt.Stmt.{Stmt}
use Rattle.meaning_state.specs.declared.fault.Fault.TheVariants as fault
use Rattle.meaning_script.specs.Pieces.{fails}
use Rattle.meaning_script.specs.Meaning.{around_at}
use Rattle.py_frames.specs.Does.{aliases_of, binds_some_import}
use Rattle.py_frames.proofs.Lifts.{lifted}
use Rattle.step_imports.proofs.Parts.{binds_nothing}
use Rattle.step_imports.proofs.import.bind_import.Goals as goal

pub returns-in_default : goal.returns-in_default
returns-in_default c =
    let o = slice_get (aliases_of (slice_get c.args.stmts.now c.args.at)) c.args.place in
    let none = ap (λ (ss : List Stmt). slice_get (aliases_of (slice_get ss c.args.at)) c.args.place) (sym c.get.ensures) ∙ sym c.in_default.ensures in
    lifted c.args.thread.now (λ w d. fails fault.NotInProfile) (λ w d. binds_some_import (around_at w d) o c.args.value) c.fail.result
    (λ w d s k. binds_nothing (around_at w d) o c.args.value s k none) c.fail.ensures
