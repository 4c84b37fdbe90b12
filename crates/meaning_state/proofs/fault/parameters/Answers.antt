use Rattle.std.proofs.Common.{ap, ◌∙◌, ◌++◌, codes}
use Rattle.std.proofs.lemmas.Result.{IfOk-weaker}
use Rattle.std.specs.Fmt.{decimal}
use Rattle.py_value.specs.declared.kind.Kind.TheVariants as kinds
use Rattle.meaning_state.specs.Faults as table
use Rattle.meaning_state.proofs.fault.parameters.Goals as goal

pub returns : goal.returns
returns c =
    let start = c.as_str.ensures ∙ c.in_ok-start.ensures in
    let middle = c.as_str-2.ensures ∙ c.in_ok-middle.ensures ∙ ap (λ t. t ++ decimal c.args.takes ++ codes " arguments, ") start in
    let whole = c.as_str-3.ensures ∙ c.in_ok-text.ensures ∙ ap (λ t. t ++ decimal c.args.given ++ codes " given") middle in
    IfOk-weaker c.plain.result _ _ (λ error is. is ∙ ap (table.raised kinds.TypeError) whole) c.plain.ensures
