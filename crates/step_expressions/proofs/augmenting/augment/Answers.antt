use Rattle.std.proofs.Common.{sym, ap, ◌∙◌}
use Rattle.std.proofs.lemmas.Result.{IfOk-weaker}
use Rattle.py_value.specs.declared.value.Value.{Value}
use Rattle.value_operators.specs.Arithmetic.{augmented}
use Rattle.meaning_script.specs.Names.{stores}
use Rattle.meaning_script.specs.Operators.{operator_of}
use Rattle.meaning_script.specs.Pieces.{Piece, gives, sized, on_value, with_two}
use Rattle.step_expressions.proofs.OperatorLayers.{two_is}
use Rattle.py_frames.proofs.Operands.{all_unlisted}
use Rattle.step_expressions.proofs.augmenting.augment.Goals as goal

pub returns-in-None : goal.returns-in-None
returns-in-None c =
    let th = c.args.thread.now in
    let none = sym c.first_listed.ensures ∙ c.in-None.is in
    let go = λ (a : Value) (b : Value). gives (augmented (operator_of c.args.op) a b) in
    IfOk-weaker c.augment_two.result _ _ (λ want f. record {
      does = λ w next.
          f.does w next
          ∙ sym (ap (λ (p : Piece). p th.state (sized (on_value (next th.left) (λ v s. stores c.args.name v s (next th.left))))) (all_unlisted c.args.values (λ vs. with_two vs go) none ∙ two_is c.args.values go));
    }) c.augment_two.ensures
