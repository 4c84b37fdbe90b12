use Rattle.std.proofs.Common.{ap}
use Rattle.meaning_script.specs.Pieces.{Piece}
use Rattle.meaning_script.specs.Meaning.{around_at}
use Rattle.meaning_script.specs.Statements.{run_all}
use Rattle.step_compound.proofs.Parts.{tests_next}
use Rattle.step_compound.proofs.branches.pass_branch.Goals as goal

pub returns : goal.returns
returns c =
    let th = c.args.thread.now in
    record { does = λ w next. ap (λ (p : Piece). p th.state (next th.left)) (tests_next (around_at w th.left) c.args.branches c.args.at (run_all (around_at w th.left) c.args.otherwise)) }
