use Rattle.std.proofs.Common.{◌∙◌, ap, codes, ◌∷◌, ◌++◌}
use Rattle.std.proofs.lemmas.Result.{IfOk-weaker}
use Rattle.std.specs.Fmt.{decimal}
use Rattle.trace_text.specs.Values.{load_text}
use Rattle.trace_text.proofs.Pieces.{fields_three}
use Rattle.trace_text.proofs.events.put_reload_end.Goals as goal

pub returns : goal.returns
returns c =
    let second = c.in_ok-out-2.ensures ∙ ap (λ t. t ++ 32 ∷ decimal c.args.mid) c.in_ok-out.ensures in
    let whole = ap (λ t. t ++ 32 ∷ load_text c.args.load) second in
    IfOk-weaker c.load_field.result _ _ (λ it e. e ∙ whole ∙ fields_three c.args.out (codes "reloadend") (decimal c.args.mid) (load_text c.args.load)) c.load_field.ensures
