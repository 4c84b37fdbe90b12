use Rattle.std.proofs.Common.{◌≡◌, ◌++◌, take}
use Rattle.std.specs.List.{flat_map}
use Rattle.base_spelling.specs.Spelling.{hex_byte}
use Rattle.base_spelling.proofs.write.put_digits.Given as goal

abbrev pub invariant-loop-b : goal.invariant-loop-b
invariant-loop-b l = l.more ≡ l.fn.out ++ flat_map hex_byte (take l.b-index l.bytes)
