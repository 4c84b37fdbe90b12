use Rattle.std.proofs.Common.{sym, ap, ◌∙◌, slice_get, Some}
use Rattle.std.proofs.lemmas.Result.{IfOk-weaker}
use Rattle.meaning_script.specs.Pieces.{Piece}
use Rattle.meaning_script.specs.Meaning.{around_at}
use Rattle.step_simple.proofs.OnLists.{some_listed}
use Rattle.step_simple.proofs.simple.perform_listed.Goals as goal

pub returns : goal.returns
returns c =
    let th = c.args.thread.now in
    let v = c.in_ok-value-in-Some.value in
    let got = sym c.in-Some.ensures.value ∙ ap Some (sym c.in_ok-value-in-Some.ensures) in
    IfOk-weaker c.list_operand.result _ _ (λ want f. record {
      does = λ w next.
          f.does w next
          ∙ ap (λ (p : Piece). p th.state (next th.left)) (some_listed (around_at w th.left) (slice_get c.args.stmts c.args.at) c.args.values c.args.place v c.requires.place got).1;
    }) c.list_operand.ensures
