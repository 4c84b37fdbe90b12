use Rattle.std.proofs.Common.{◌∙◌, ap}
use Rattle.std.proofs.lemmas.Result.{IfOk-weaker}
use Rattle.trace_fields.specs.Fields.{bare_variable, bare_variable_in}
use Rattle.trace_fields.proofs.Names.{as_text, no_text}
use Rattle.trace_fields.proofs.fields.bare_variable_in.Goals as goal

pub returns-in-Ok : goal.returns-in-Ok
unfolding bare_variable_in
returns-in-Ok c =
    let is = c.in-Ok.ensures.cases in
    IfOk-weaker c.bare_variable.result _ _ (λ o e. e ∙ ap bare_variable is.0 ∙ as_text c.args.field.now (bare_variable c.args.field.now) is.1) c.bare_variable.ensures

pub returns-in-Err : goal.returns-in-Err
unfolding bare_variable_in
returns-in-Err c = no_text c.args.field.now (bare_variable c.args.field.now) c.in-Err.ensures.cases.0
