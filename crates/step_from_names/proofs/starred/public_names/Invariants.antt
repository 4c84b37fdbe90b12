use Rattle.std.proofs.Common.{◌≡◌, take}
use Rattle.std.specs.List.{filter}
use Rattle.meaning_script.specs.ImportStatements.{is_public}
use Rattle.step_from_names.proofs.starred.public_names.Given as goal

abbrev pub invariant-loop-name : goal.invariant-loop-name
invariant-loop-name l = l.kept ≡ filter is_public (take l.name-index l.name-items)
