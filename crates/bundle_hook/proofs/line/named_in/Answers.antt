use Rattle.std.proofs.Common.{◌∙◌, sym, ap}
use Rattle.std.specs.Option.{option_and_then}
use Rattle.bundle_hook.specs.Reading.{named_in, with_parts}
use Rattle.bundle_hook.proofs.Places.{read_is}
use Rattle.bundle_hook.proofs.line.named_in.Goals as goal

pub returns-in-Some : goal.returns-in-Some
returns-in-Some c = c.some_part.ensures ∙ ap (option_and_then with_parts) (sym c.in-Some.is) ∙ read_is c.in_ok-text.text c.in_ok-path.field-0 c.in_ok-path.ensures ∙ ap named_in c.in_ok-text.ensures

pub returns : goal.returns
returns c = ap (option_and_then with_parts) (sym c.in-None.is) ∙ read_is c.in_ok-text.text c.in_ok-path.field-0 c.in_ok-path.ensures ∙ ap named_in c.in_ok-text.ensures
