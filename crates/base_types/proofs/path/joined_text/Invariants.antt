use Rattle.std.proofs.Common.{◌≡◌, take}
use Rattle.base_types.specs.Path.{joined}
use Rattle.base_types.proofs.path.joined_text.Given as goal

abbrev pub invariant-loop-n : goal.invariant-loop-n
invariant-loop-n l = l.text ≡ joined (take l.n l.parts)
