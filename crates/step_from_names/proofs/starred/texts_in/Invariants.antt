use Rattle.std.proofs.Common.{◌≡◌, drop}
use Rattle.meaning_script.specs.ImportStatements.{texts_in}
use Rattle.step_from_names.specs.Lists.{behind}
use Rattle.step_from_names.proofs.starred.texts_in.Given as goal

abbrev pub invariant-loop-value : goal.invariant-loop-value
invariant-loop-value l = texts_in l.values ≡ behind l.texts (texts_in (drop l.value-index l.values))
