use Rattle.std.proofs.Common.{◌∙◌, ap, codes, ◌∷◌, ◌++◌}
use Rattle.std.proofs.lemmas.Result.{IfOk-weaker}
use Rattle.std.specs.Fmt.{decimal}
use Rattle.trace_text.specs.Fields.{raw_word}
use Rattle.trace_text.proofs.Pieces.{fields_three}
use Rattle.trace_text.proofs.events.put_reload_begin.Goals as goal

pub returns : goal.returns
returns c =
    let second = c.in_ok-out-2.ensures ∙ ap (λ t. t ++ 32 ∷ decimal c.args.mid) c.in_ok-out.ensures in
    let whole = ap (λ t. t ++ 32 ∷ c.raw_word.result.now) second ∙ ap (λ w. ((c.args.out ++ 32 ∷ codes "reloadbegin") ++ 32 ∷ decimal c.args.mid) ++ 32 ∷ w) c.raw_word.ensures in
    IfOk-weaker c.word_field-2.result _ _ (λ it e. e ∙ whole ∙ fields_three c.args.out (codes "reloadbegin") (decimal c.args.mid) (raw_word c.args.raw)) c.word_field-2.ensures
