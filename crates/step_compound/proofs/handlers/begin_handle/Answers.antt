use Rattle.std.proofs.Common.{◌∙◌, sym, ap, List, slice_get}
use Rattle.std.proofs.lemmas.Result.{IfOk-weaker}
use Rattle.py_syntax.specs.declared.stmt.Handler.{Handler}
use Rattle.meaning_script.specs.Meaning.{around_at}
use Rattle.step_compound.proofs.Chain.{handles_block}
use Rattle.step_compound.proofs.handlers.begin_handle.Goals as goal

pub returns-in-Some : goal.returns-in-Some
returns-in-Some c =
    let th = c.args.thread.now in
    let is = ap (λ (hs : List Handler). slice_get hs c.args.at) (sym c.get.ensures) ∙ sym c.in-Some.ensures.value in
    IfOk-weaker c.handle.result _ _ (λ want f. record {
      does = λ w next.
          f.does w next ∙ handles_block (around_at w th.left) c.args.handlers.now c.args.at c.in-Some.handler.now c.args.error th.state (next th.left) is;
    }) c.handle.ensures
