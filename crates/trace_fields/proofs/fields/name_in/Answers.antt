use Rattle.std.proofs.Common.{◌∙◌, ap}
use Rattle.std.proofs.lemmas.Result.{IfOk-weaker}
use Rattle.trace_fields.specs.Fields.{bare_name, name_in}
use Rattle.trace_fields.proofs.Names.{as_text, no_text}
use Rattle.trace_fields.proofs.fields.name_in.Goals as goal

pub returns-in-Ok : goal.returns-in-Ok
unfolding name_in
returns-in-Ok c =
    let is = c.in-Ok.ensures.cases in
    IfOk-weaker c.bare_name.result _ _ (λ o e. e ∙ ap bare_name is.0 ∙ as_text c.args.field.now (bare_name c.args.field.now) is.1) c.bare_name.ensures

pub returns-in-Err : goal.returns-in-Err
unfolding name_in
returns-in-Err c = no_text c.args.field.now (bare_name c.args.field.now) c.in-Err.ensures.cases.0
