use Rattle.std.proofs.Common.{◌∙◌, sym, ap, ◌++◌, ◌&&◌, encode_utf8}
use Rattle.std.specs.List.{list_all}
use Rattle.std.specs.Str.{chars}
use Rattle.std.proofs.lemmas.Str.{chars_past_char}
use Rattle.spec_core.specs.Identifiers.{is_identifier, continues_identifier}
use Rattle.spec_core.proofs.ident.is_identifier.Goals as goal

pub returns-then-starts_identifier : goal.returns-then-starts_identifier
returns-then-starts_identifier c =
    let text = c.chars-chars.ensures.rest in
    let cut = sym text ∙ c.in-Some.ensures.steps.0 ∙ ap (λ t. encode_utf8 c.in-Some.first ++ t) (sym c.as_str.ensures) in
    c.continue_identifier.ensures ∙ ap (λ b. b && list_all continues_identifier (chars c.as_str.result.now)) c.if-starts_identifier.ensures
    ∙ sym (ap is_identifier (chars_past_char c.args.text.now c.as_str.result.now c.in-Some.first c.utf8.text cut))
