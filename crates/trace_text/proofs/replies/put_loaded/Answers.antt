use Rattle.std.proofs.Common.{◌∙◌, ap, codes, ◌∷◌, ◌++◌}
use Rattle.std.proofs.lemmas.Result.{IfOk-weaker}
use Rattle.base_spelling.specs.Spelling.{source}
use Rattle.trace_text.specs.Values.{module_text}
use Rattle.trace_text.proofs.Pieces.{fields_three}
use Rattle.trace_text.proofs.replies.put_loaded.Goals as goal

pub returns : goal.returns
returns c =
    let m = module_text c.args.m.now in
    let second = c.in_ok-out-2.ensures ∙ ap (λ t. t ++ 32 ∷ m) c.in_ok-out.ensures in
    let whole = ap (λ t. t ++ 32 ∷ source c.as_slice.result.now) second ∙ ap (λ w. ((c.args.out ++ 32 ∷ codes "loaded") ++ 32 ∷ m) ++ 32 ∷ source w) c.as_slice.ensures in
    IfOk-weaker c.source_field.result _ _ (λ it e. e ∙ whole ∙ fields_three c.args.out (codes "loaded") m (source c.args.loaded.now)) c.source_field.ensures
