use Rattle.std.proofs.Common.{refl, ap, length, arith}
use Rattle.meaning_script.specs.Meaning.{around_at}
use Rattle.meaning_script.specs.Statements.{run}
use Rattle.py_frames.specs.Does.{runs_some}
use Rattle.step_compound.proofs.Parts.{ends, goes}
use Rattle.step_compound.proofs.block.begin_block.Goals as goal

pub returns-then-at-count : goal.returns-then-at-count
returns-then-at-count c =
    let th = c.args.thread.now in
    let some = c.if-at-count.true in
    let all = c.len-count.ensures in
    let same = ap length c.get.ensures in
    record { does = λ w next. rw (c.went.ensures.does w next) (ends (run (around_at w th.left)) c.args.stmts c.args.at th.state (next th.left) (omega (arith, some, all, same))) }

pub returns : goal.returns
returns c =
    let th = c.args.thread.now in
    let some = c.if-at-count.false in
    let all = c.len-count.ensures in
    let same = ap length c.get.ensures in
    record { does = λ w next. rw c.in_ok-share.ensures (goes (run (around_at w th.left)) (runs_some (around_at w th.left)) (λ x. refl) c.args.stmts c.args.at th.state (next th.left) (omega (arith, some, all, same))) }
