use Rattle.std.proofs.Common.{◌∙◌, ap, codes, ◌∷◌, ◌++◌}
use Rattle.std.proofs.lemmas.Result.{IfOk-weaker}
use Rattle.std.specs.Fmt.{decimal}
use Rattle.base_spelling.specs.Spelling.{source}
use Rattle.trace_text.specs.Values.{spec_text}
use Rattle.trace_text.proofs.Pieces.{fields_five}
use Rattle.trace_text.proofs.events.put_reload_take.Goals as goal

pub returns : goal.returns
returns c =
    let spec = c.args.spec.now in
    let second = c.in_ok-out-2.ensures ∙ ap (λ t. t ++ 32 ∷ decimal c.args.mid) c.in_ok-out.ensures in
    let two = (c.args.out ++ 32 ∷ codes "reloadtake") ++ 32 ∷ decimal c.args.mid in
    let third = c.in_ok-out-3.ensures ∙ ap (λ t. (t ++ 32 ∷ spec.name) ++ 32 ∷ spec_text spec.kind) second in
    let whole = ap (λ t. t ++ 32 ∷ source c.as_slice.result.now) third ∙ ap (λ w. ((two ++ 32 ∷ spec.name) ++ 32 ∷ spec_text spec.kind) ++ 32 ∷ source w) c.as_slice.ensures in
    IfOk-weaker c.source_field.result _ _ (λ it e. e ∙ whole ∙ fields_five c.args.out (codes "reloadtake") (decimal c.args.mid) spec.name (spec_text spec.kind) (source c.args.source.now)) c.source_field.ensures
