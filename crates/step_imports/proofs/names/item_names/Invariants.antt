use Rattle.std.proofs.Common.{◌≡◌, take}
use Rattle.meaning_script.specs.ImportStatements.{item_names}
use Rattle.step_imports.proofs.names.item_names.Given as goal

abbrev pub invariant-loop-item : goal.invariant-loop-item
invariant-loop-item l = l.names ≡ item_names (take l.item-index l.item-items)
