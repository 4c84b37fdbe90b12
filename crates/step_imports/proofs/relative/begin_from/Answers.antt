use Rattle.std.proofs.Common.{◌∙◌, sym, ap, List, slice_get}
use Rattle.py_syntax.specs.declared.stmt.Stmt.{Stmt}
use Rattle.meaning_script.specs.Meaning.{around_at}
use Rattle.meaning_script.specs.ImportStatements.{from_import}
use Rattle.py_frames.specs.Does.{from_some}
use Rattle.step_imports.specs.Parts.{from_of}
use Rattle.step_imports.proofs.Levels.{from_is}
use Rattle.py_frames.proofs.Lifts.{lifted}
use Rattle.step_imports.proofs.relative.begin_from.Goals as goal

pub returns : goal.returns
returns c =
    let o = slice_get c.args.stmts c.args.at in
    let dots = c.in-Some.dots in
    let parts = c.in-Some.parts.now in
    let names = c.in-Some.names.now in
    let is = ap (λ (ss : List Stmt). from_of (slice_get ss c.args.at)) (sym c.get.ensures) ∙ c.in-Some.ensures in
    lifted c.args.thread.now (λ w d. from_import (around_at w d) dots parts names) (λ w d. from_some (around_at w d) o) c.begin_dots.result
    (λ w d s k. from_is (around_at w d) o dots parts names s k is) c.begin_dots.ensures
