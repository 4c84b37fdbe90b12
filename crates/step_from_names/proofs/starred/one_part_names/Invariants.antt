use Rattle.std.proofs.Common.{◌≡◌, take}
use Rattle.std.specs.List.{filter}
use Rattle.meaning_script.specs.ImportStatements.{is_one_part}
use Rattle.step_from_names.proofs.starred.one_part_names.Given as goal

abbrev pub invariant-loop-name : goal.invariant-loop-name
invariant-loop-name l = l.kept ≡ filter is_one_part (take l.name-index l.name-items)
