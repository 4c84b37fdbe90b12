use Rattle.std.proofs.Common.{ap, ◌∙◌, ◌++◌}
use Rattle.std.proofs.lemmas.Result.{IfOk-weaker}
use Rattle.py_value.specs.declared.kind.Kind.TheVariants as kinds
use Rattle.meaning_state.specs.Faults as table
use Rattle.meaning_state.proofs.fault.lacking.Goals as goal

pub returns : goal.returns
returns c =
    let start = c.as_str.ensures ∙ c.in_ok-start.ensures in
    IfOk-weaker c.around.result _ _
    (λ error is. is ∙ ap (λ t. table.raised kinds.AttributeError (t ++ c.args.name.now ++ c.args.back.now)) start) c.around.ensures
