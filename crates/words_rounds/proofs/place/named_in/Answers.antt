use Rattle.std.proofs.Common.{◌∙◌, sym, ap}
use Rattle.std.specs.Option.{option_and_then}
use Rattle.words_rounds.specs.Lines.{named_in, with_parts}
use Rattle.words_rounds.proofs.Places.{read_is}
use Rattle.words_rounds.proofs.place.named_in.Goals as goal

pub returns-in-Some : goal.returns-in-Some
returns-in-Some c = c.some_part.ensures ∙ ap (option_and_then with_parts) (sym c.in-Some.is) ∙ read_is c.in_ok-text.text c.in_ok-path.field-0 c.in_ok-path.ensures ∙ ap named_in c.in_ok-text.ensures

pub returns : goal.returns
returns c = ap (option_and_then with_parts) (sym c.in-None.is) ∙ read_is c.in_ok-text.text c.in_ok-path.field-0 c.in_ok-path.ensures ∙ ap named_in c.in_ok-text.ensures
