use Rattle.drive_straight.specs.Remains.{due, remains}
use Rattle.py_run.proofs.InPlace.{led_behind}
use Rattle.py_run.proofs.working.piece_on.Goals as goal

pub returns-clause-moves : goal.returns-clause-moves
returns-clause-moves c =
    led_behind c.args.execution.now c.next_piece.new.execution c.lead.new.execution (due c.args.next) (λ here. remains here c.in_ok-want.want) c.lead.result c.in_ok-want.ensures.moves c.lead.ensures.moves
