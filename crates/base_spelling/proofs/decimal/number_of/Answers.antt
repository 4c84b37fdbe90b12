use Rattle.std.proofs.Common.{◌∙◌, sym, ap}
use Rattle.base_spelling.specs.Numbers.{is_number, number_in}
use Rattle.base_spelling.proofs.Spelled.{no_number, parsed, not_parsed, digits_are_utf8}
use Rattle.base_spelling.proofs.decimal.number_of.Goals as goal

pub returns-then-not-is_number : goal.returns-then-not-is_number
returns-then-not-is_number c = no_number c.args.text.now (sym c.is_number.ensures ∙ c.if-not-is_number.true)

pub returns-in_default : goal.returns-in_default
returns-in_default c = absurd (c.in_default.ensures.cases.0 (digits_are_utf8 c.args.text.now (sym c.is_number.ensures ∙ c.if-not-is_number.false)))

pub returns-in-Ok-parse : goal.returns-in-Ok-parse
returns-in-Ok-parse c =
    let same = c.in-Ok.ensures.cases.0 in
    let number = ap is_number same ∙ sym c.is_number.ensures ∙ c.if-not-is_number.false in
    parsed c.in-Ok.digits.now c.in-Ok-parse.n c.in-Ok-parse.ensures.value.0 number ∙ ap number_in same

pub returns-in-Err : goal.returns-in-Err
returns-in-Err c =
    let same = c.in-Ok.ensures.cases.0 in
    let number = ap is_number same ∙ sym c.is_number.ensures ∙ c.if-not-is_number.false in
    not_parsed c.in-Ok.digits.now c.in-Err.field-0 c.in-Err.ensures.value.0 number ∙ ap number_in same
