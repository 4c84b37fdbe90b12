use Rattle.std.proofs.Common.{sym, ◌∙◌}
use Rattle.std.proofs.lemmas.Bool.{not-true}
use Rattle.py_run.proofs.working.has_plain_value.Goals as goal

pub returns-in-Value : goal.returns-in-Value
returns-in-Value c = λ h. record {
  value = c.in-Value.value;
  is = c.in-Value.is;
  plain = sym c.is_namespace_path.ensures ∙ not-true c.is_namespace_path.result h;
}
