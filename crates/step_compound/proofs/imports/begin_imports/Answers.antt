use Rattle.std.proofs.Common.{refl, ap, List, length, slice_get, arith}
use Rattle.py_syntax.specs.declared.stmt.Stmt.{Stmt}
use Rattle.meaning_script.specs.Meaning.{around_at}
use Rattle.meaning_script.specs.ImportStatements.{imports_one}
use Rattle.py_frames.specs.Does.{aliases_of, imports_some}
use Rattle.step_compound.proofs.Parts.{ends, goes}
use Rattle.step_compound.proofs.imports.begin_imports.Goals as goal

pub returns-then-place-count : goal.returns-then-place-count
returns-then-place-count c =
    let th = c.args.thread.now in
    let some = c.if-place-count.true in
    let all = c.alias_count-count.ensures in
    let same = ap (λ (stmts : List Stmt). length (aliases_of (slice_get stmts c.args.at))) c.get.ensures in
    record { does = λ w next. rw (c.went.ensures.does w next) (ends (imports_one (around_at w th.left)) (aliases_of (slice_get c.args.stmts c.args.at)) c.args.place th.state (next th.left) (omega (arith, some, all, same))) }

pub returns : goal.returns
returns c =
    let th = c.args.thread.now in
    let some = c.if-place-count.false in
    let all = c.alias_count-count.ensures in
    let same = ap (λ (stmts : List Stmt). length (aliases_of (slice_get stmts c.args.at))) c.get.ensures in
    record { does = λ w next. rw c.in_ok-share.ensures (goes (imports_one (around_at w th.left)) (imports_some (around_at w th.left)) (λ x. refl) (aliases_of (slice_get c.args.stmts c.args.at)) c.args.place th.state (next th.left) (omega (arith, some, all, same))) }
