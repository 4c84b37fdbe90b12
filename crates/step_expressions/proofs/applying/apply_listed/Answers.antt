use Rattle.std.proofs.Common.{refl, sym, ap, ◌∙◌, slice_set, Some}
use Rattle.std.proofs.lemmas.Option.{none-some, slice_get-get_or}
use Rattle.std.proofs.lemmas.Result.{IfOk-weaker}
use Rattle.py_value.specs.declared.value.Value.TheVariants as values
use Rattle.py_syntax.specs.declared.expr.Expr.{out-Expr}
use Rattle.meaning_script.specs.Pieces.{Piece, sized}
use Rattle.meaning_script.specs.Operators.{applies_at}
use Rattle.meaning_script.specs.Meaning.{around_at}
use Rattle.py_frames.proofs.Operands.{listed_with, first_is_listed, first_within}
use Rattle.step_expressions.proofs.OnLists.{place_first, place_is}
use Rattle.step_expressions.proofs.applying.apply_listed.Goals as goal

pub returns-in-None : goal.returns-in-None
returns-in-None c =
    let first = place_first (out-Expr c.args.expr) c.args.values c.args.at c.requires.place in
    let there = slice_get-get_or c.args.values c.args.at values.Nothing (first_within c.args.values c.args.at first) in
    absurd (none-some _ (c.in-None.ensures.value ∙ there))

pub list_operand-requires : goal.list_operand-requires
list_operand-requires c =
    let v = c.in_ok-value-in-Some.value in
    let first = place_first (out-Expr c.args.expr) c.args.values c.args.at c.requires.place in
    record { is_listed = first_is_listed c.args.values c.args.at v first (sym c.in-Some.ensures.value ∙ ap Some (sym c.in_ok-value-in-Some.ensures)) }

pub returns : goal.returns
returns c =
    let th = c.args.thread.now in
    let v = c.in_ok-value-in-Some.value in
    let first = place_first (out-Expr c.args.expr) c.args.values c.args.at c.requires.place in
    let got = sym c.in-Some.ensures.value ∙ ap Some (sym c.in_ok-value-in-Some.ensures) in
    IfOk-weaker c.list_operand.result _ _ (λ want f. record {
      does = λ w next.
          f.does w next
          ∙ listed_with v _ (λ u. applies_at (around_at w th.left) (out-Expr c.args.expr) (slice_set c.args.values c.args.at u)) th.state (next th.left) (sized (next th.left))
          (first_is_listed c.args.values c.args.at v first got) (λ items. refl) (λ leave. refl)
          ∙ ap (λ (p : Piece). p th.state (sized (next th.left))) (place_is (around_at w th.left) (out-Expr c.args.expr) c.args.values c.args.at v c.requires.place got);
    }) c.list_operand.ensures
