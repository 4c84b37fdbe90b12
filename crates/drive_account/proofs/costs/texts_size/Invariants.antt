use Rattle.std.proofs.Common.{◌≡◌, ◌+◌, ◌-◌, ◌^◌, min, map, take}
use Rattle.std.specs.List.{sum}
use Rattle.meaning_script.specs.Pieces.{text_units}
use Rattle.drive_account.proofs.costs.texts_size.Given as goal

abbrev pub invariant-loop-text : goal.invariant-loop-text
invariant-loop-text l = l.units ≡ min (l.text-index + sum (map text_units (take l.text-index l.text-items))) (2 ^ 64 - 1)
