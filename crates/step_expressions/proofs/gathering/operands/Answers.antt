use Rattle.std.proofs.Common.{sym, ap, ◌∙◌, map, length, slice_get}
use Rattle.meaning_script.specs.Pieces.{gathers}
use Rattle.meaning_script.specs.Operators.{eval}
use Rattle.meaning_script.specs.Meaning.{around_at}
use Rattle.py_frames.specs.Does.{completes, operands_of}
use Rattle.py_frames.proofs.Places.{drop_none}
use Rattle.step_expressions.proofs.Places.{drop_some}
use Rattle.step_expressions.proofs.gathering.operands.Goals as goal

pub returns-in-None : goal.returns-in-None
returns-in-None c =
    let none = sym (c.in_ok-operand.ensures ∙ ap (λ n. slice_get (operands_of c.args.form) n) c.len.ensures) ∙ c.in-None.is in
    record {
      does = λ w next.
          c.complete.ensures.does w next
          ∙ sym (ap (λ es. gathers (map (eval (around_at w c.args.thread.now.left)) es) c.args.done (completes (around_at w c.args.thread.now.left) c.args.form) c.args.thread.now.state (next c.args.thread.now.left)) (drop_none (operands_of c.args.form) (length c.args.done) none));
    }

pub returns-in-Some : goal.returns-in-Some
returns-in-Some c =
    let some = sym (c.in_ok-operand.ensures ∙ ap (λ n. slice_get (operands_of c.args.form) n) c.len.ensures) ∙ c.in-Some.is in
    record {
      does = λ w next.
          sym (ap (λ es. gathers (map (eval (around_at w c.args.thread.now.left)) es) c.args.done (completes (around_at w c.args.thread.now.left) c.args.form) c.args.thread.now.state (next c.args.thread.now.left)) (drop_some (operands_of c.args.form) (length c.args.done) c.in-Some.expr some));
    }
