use Rattle.std.proofs.Common.{◌∙◌, sym, ap, List, slice_get}
use Rattle.py_syntax.specs.declared.stmt.Branch.{Branch}
use Rattle.meaning_script.specs.Pieces.{Piece}
use Rattle.meaning_script.specs.Meaning.{around_at}
use Rattle.meaning_script.specs.Statements.{run_all}
use Rattle.step_compound.proofs.Parts.{tests_first, tests_last}
use Rattle.step_compound.proofs.branches.begin_branches.Goals as goal

pub returns-in-None : goal.returns-in-None
returns-in-None c =
    let th = c.args.thread.now in
    record { does = λ w next. ap (λ (p : Piece). p th.state (next th.left)) (tests_last (around_at w th.left) c.args.branches c.args.at (run_all (around_at w th.left) c.args.otherwise) (ap (λ (bs : List Branch). slice_get bs c.args.at) (sym c.get.ensures) ∙ sym c.in-None.ensures.value)) }

pub returns : goal.returns
returns c =
    let th = c.args.thread.now in
    record { does = λ w next. rw c.in_ok-test-in-Some.ensures (tests_first (around_at w th.left) c.args.branches c.args.at c.in-Some.branch.now (run_all (around_at w th.left) c.args.otherwise) th.state (next th.left) (ap (λ (bs : List Branch). slice_get bs c.args.at) (sym c.get.ensures) ∙ sym c.in-Some.ensures.value)) }
