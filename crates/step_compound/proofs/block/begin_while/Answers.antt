use Rattle.std.proofs.Common.{ap}
use Rattle.meaning_script.specs.Pieces.{Piece}
use Rattle.meaning_script.specs.Meaning.{around_at}
use Rattle.step_compound.proofs.Forms.{runs_while}
use Rattle.step_compound.proofs.block.begin_while.Goals as goal

pub returns : goal.returns
returns c =
    let th = c.args.thread.now in
    record { does = λ w next. rw (c.in_ok-test.ensures, c.in_ok-body.ensures, c.most.ensures) (ap (λ (p : Piece). p th.state (next th.left)) (runs_while (around_at w th.left) c.args.test.now c.args.body.now)) }
