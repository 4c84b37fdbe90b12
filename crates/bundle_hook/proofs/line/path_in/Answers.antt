use Rattle.std.proofs.Common.{◌∙◌, sym, ap}
use Rattle.std.proofs.lemmas.Result.{IfOk-weaker}
use Rattle.bundle_hook.specs.Reading.{named_in}
use Rattle.bundle_hook.proofs.Places.{not_plain, no_text, named}
use Rattle.bundle_hook.proofs.line.path_in.Goals as goal

pub returns-then-not-is_plain : goal.returns-then-not-is_plain
returns-then-not-is_plain c = not_plain c.args.text.now (sym c.is_plain.ensures ∙ c.if-not-is_plain.true)

pub returns-in-Ok : goal.returns-in-Ok
returns-in-Ok c =
    let is = c.in-Ok.ensures.cases in
    let plain = sym c.is_plain.ensures ∙ c.if-not-is_plain.false in
    IfOk-weaker c.named_in.result _ _ (λ o e. e ∙ ap named_in is.0 ∙ named c.args.text.now plain is.1) c.named_in.ensures

pub returns-in-Err : goal.returns-in-Err
returns-in-Err c = no_text c.args.text.now c.in-Err.ensures.cases.0
