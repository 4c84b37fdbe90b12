use Rattle.std.proofs.Common.{◌∙◌, sym, ap, ◌++◌}
use Rattle.std.proofs.lemmas.Result.{IfOk-weaker}
use Rattle.base_spelling.proofs.Sources.{as_text, as_digits}
use Rattle.base_spelling.specs.Spelling.{quoted}
use Rattle.base_spelling.proofs.write.write_source.Goals as goal

pub returns-in-Ok : goal.returns-in-Ok
returns-in-Ok c =
    let text = c.in-Ok.ensures.cases in
    IfOk-weaker c.write_quoted.result _ _ (λ it e. e ∙ ap (λ t. c.args.out ++ t) (ap quoted text.0 ∙ sym (as_text c.args.bytes.now text.1))) c.write_quoted.ensures

pub returns-in-Err : goal.returns-in-Err
returns-in-Err c =
    let digits = as_digits c.args.bytes.now c.in-Err.ensures.cases.0 in
    IfOk-weaker c.write_in_hex.result _ _ (λ it e. e ∙ ap (λ t. c.args.out ++ t) (sym digits)) c.write_in_hex.ensures
