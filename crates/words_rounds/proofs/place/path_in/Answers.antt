use Rattle.std.proofs.Common.{◌∙◌, sym, ap}
use Rattle.std.proofs.lemmas.Result.{IfOk-weaker}
use Rattle.words_rounds.specs.Lines.{named_in}
use Rattle.words_rounds.proofs.Places.{blank, no_text, named}
use Rattle.words_rounds.proofs.place.path_in.Goals as goal

pub returns-then-not-has_no_blank : goal.returns-then-not-has_no_blank
returns-then-not-has_no_blank c = blank c.args.text.now (sym c.has_no_blank.ensures ∙ c.if-not-has_no_blank.true)

pub returns-in-Ok : goal.returns-in-Ok
returns-in-Ok c =
    let is = c.in-Ok.ensures.cases in
    let plain = sym c.has_no_blank.ensures ∙ c.if-not-has_no_blank.false in
    IfOk-weaker c.named_in.result _ _ (λ o e. e ∙ ap named_in is.0 ∙ named c.args.text.now plain is.1) c.named_in.ensures

pub returns-in-Err : goal.returns-in-Err
returns-in-Err c = no_text c.args.text.now c.in-Err.ensures.cases.0
