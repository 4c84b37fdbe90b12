use Rattle.std.proofs.Common.{◌∙◌, sym, ap, not}
use Rattle.std.specs.Option.{is_some}
use Rattle.words_rounds.proofs.Places.{some_is_text}
use Rattle.words_rounds.proofs.line.script_in.Goals as goal

pub returns-in-Err : goal.returns-in-Err
returns-in-Err c = absurd (c.in-Err.ensures.cases.0 (some_is_text c.args.rest.now (ap is_some (sym c.in_ok-path_in.ensures) ∙ c.is_none.ensures ∙ ap not c.if-is_none.false)))
