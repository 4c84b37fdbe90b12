use Rattle.std.proofs.Common.{refl, ap, List, length, slice_get, arith}
use Rattle.py_syntax.specs.declared.stmt.Stmt.{Stmt}
use Rattle.meaning_script.specs.Meaning.{around_at}
use Rattle.meaning_script.specs.ImportStatements.{binds_item}
use Rattle.py_frames.specs.Does.{items_of, binds_some_item}
use Rattle.step_imports.proofs.Parts.{ends, goes}
use Rattle.step_imports.proofs.binding.begin_bindings.Goals as goal

pub returns-then-place-count : goal.returns-then-place-count
returns-then-place-count c =
    let th = c.args.thread.now in
    let m = c.args.module in
    let some = c.if-place-count.true in
    let all = c.item_count-count.ensures in
    let same = ap (λ (stmts : List Stmt). length (items_of (slice_get stmts c.args.at))) c.get.ensures in
    record { does = λ w next. rw (c.went.ensures.does w next) (ends (binds_item (around_at w th.left) m) (items_of (slice_get c.args.stmts c.args.at)) c.args.place th.state (next th.left) (omega (arith, some, all, same))) }

pub returns : goal.returns
returns c =
    let th = c.args.thread.now in
    let m = c.args.module in
    let some = c.if-place-count.false in
    let all = c.item_count-count.ensures in
    let same = ap (λ (stmts : List Stmt). length (items_of (slice_get stmts c.args.at))) c.get.ensures in
    record { does = λ w next. rw (c.in_ok-owner.ensures, c.in_ok-block.ensures) (goes (binds_item (around_at w th.left) m) (binds_some_item (around_at w th.left) m) (λ x. refl) (items_of (slice_get c.args.stmts c.args.at)) c.args.place th.state (next th.left) (omega (arith, some, all, same))) }
