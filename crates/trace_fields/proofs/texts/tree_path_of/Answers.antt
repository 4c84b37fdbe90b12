use Rattle.std.proofs.Common.{◌∙◌, sym, ap, codes}
use Rattle.std.proofs.lemmas.Result.{IfOk-weaker}
use Rattle.std.specs.Str.{bytes_eq}
use Rattle.trace_fields.proofs.Paths.{path_is, dot_is_none}
use Rattle.trace_fields.proofs.texts.tree_path_of.Goals as goal

pub returns-then-is_dot : goal.returns-then-is_dot
returns-then-is_dot c = dot_is_none c.args.text.now (ap (λ t. bytes_eq t (codes ".")) (sym c.as_bytes.ensures) ∙ sym c.is_dot.ensures ∙ c.if-is_dot.true)

pub returns : goal.returns
returns c =
    let no_dot = ap (λ t. bytes_eq t (codes ".")) (sym c.as_bytes.ensures) ∙ sym c.is_dot.ensures ∙ c.if-is_dot.false in
    IfOk-weaker c.read.result _ _ (λ o h. path_is c.args.text.now o no_dot h) c.read.ensures
