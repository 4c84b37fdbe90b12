use Rattle.std.proofs.Common.{ap}
use Rattle.meaning_script.specs.Pieces.{Piece}
use Rattle.meaning_script.specs.Meaning.{around_at}
use Rattle.step_compound.proofs.Chain.{catches_next}
use Rattle.step_compound.proofs.handlers.pass_handler.Goals as goal

pub returns : goal.returns
returns c =
    let th = c.args.thread.now in
    record { does = λ w next. ap (λ (p : Piece). p th.state (next th.left)) (catches_next (around_at w th.left) c.args.handlers c.args.at c.args.error) }
