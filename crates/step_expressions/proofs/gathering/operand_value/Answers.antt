use Rattle.std.proofs.Common.{sym, ap, ◌∙◌, map, ◌++◌, ◌∷◌, []}
use Rattle.std.proofs.lemmas.Result.{IfOk-weaker}
use Rattle.meaning_script.specs.Pieces.{gathers}
use Rattle.meaning_script.specs.Operators.{eval}
use Rattle.meaning_script.specs.Meaning.{around_at}
use Rattle.py_frames.specs.Does.{completes, operands_of, frame_does, item_does}
use Rattle.py_frames.specs.declared.work.Frame.TheVariants as frames
use Rattle.py_frames.specs.declared.work.Item.TheVariants as items
use Rattle.step_expressions.proofs.Places.{drop_more}
use Rattle.step_expressions.proofs.gathering.operand_value.Goals as goal

pub returns-in_ok-push-in-Went : goal.returns-in_ok-push-in-Went
returns-in_ok-push-in-Went c =
    IfOk-weaker c.operands.result _ _ (λ want f. record {
      does = λ w next.
          f.does w next
          ∙ ap (λ vs. item_does w c.args.thread.now.left (items.Operands c.args.form vs) next c.args.thread.now.state) c.in_ok-push-in-Went.ensures.ok
          ∙ ap (λ es. gathers (map (eval (around_at w c.args.thread.now.left)) es) (c.args.done ++ c.in-Went.value ∷ []) (completes (around_at w c.args.thread.now.left) c.args.form) c.args.thread.now.state (next c.args.thread.now.left)) (drop_more (operands_of c.args.form) c.args.done c.in-Went.value)
          ∙ ap (λ flow. frame_does w c.args.thread.now.left (frames.Operands c.args.form c.args.done) next flow c.args.thread.now.state) (sym c.in-Went.is);
    }) c.operands.ensures
