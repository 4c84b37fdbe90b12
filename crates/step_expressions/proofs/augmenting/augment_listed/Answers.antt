use Rattle.std.proofs.Common.{refl, sym, ap, ◌∙◌, List, slice_set, Some}
use Rattle.std.proofs.lemmas.Result.{IfOk-weaker}
use Rattle.py_value.specs.declared.value.Value.{Value}
use Rattle.value_operators.specs.Arithmetic.{augmented}
use Rattle.meaning_script.specs.Names.{stores}
use Rattle.meaning_script.specs.Operators.{operator_of}
use Rattle.meaning_script.specs.Pieces.{Piece, gives, sized, on_value, all_listed, with_two}
use Rattle.py_frames.proofs.Operands.{listed_with, first_is_listed, all_first}
use Rattle.step_expressions.proofs.augmenting.augment_listed.Goals as goal

pub list_operand-requires : goal.list_operand-requires
list_operand-requires c =
    record { is_listed = first_is_listed c.args.values c.args.at c.in_ok-value-in-Some.value c.requires.place (sym c.in-Some.ensures.value ∙ ap Some (sym c.in_ok-value-in-Some.ensures)) }

pub returns : goal.returns
returns c =
    let th = c.args.thread.now in
    let v = c.in_ok-value-in-Some.value in
    let got = sym c.in-Some.ensures.value ∙ ap Some (sym c.in_ok-value-in-Some.ensures) in
    let go = λ (vs : List Value). with_two vs (λ a b. gives (augmented (operator_of c.args.op) a b)) in
    IfOk-weaker c.list_operand.result _ _ (λ want f. record {
      does = λ w next.
          f.does w next
          ∙ listed_with v _ (λ u. all_listed (slice_set c.args.values c.args.at u) go) th.state (next th.left) (sized (on_value (next th.left) (λ v s. stores c.args.name v s (next th.left))))
          (first_is_listed c.args.values c.args.at v c.requires.place got) (λ items. refl) (λ leave. refl)
          ∙ ap (λ (p : Piece). p th.state (sized (on_value (next th.left) (λ v s. stores c.args.name v s (next th.left))))) (all_first c.args.values c.args.at v go c.requires.place got);
    }) c.list_operand.ensures
