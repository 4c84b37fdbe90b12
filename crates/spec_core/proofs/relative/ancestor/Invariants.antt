use Rattle.std.proofs.Common.{◌≡◌, ◌-◌, ◌<◌, length, take}
use Rattle.spec_core.specs.Names.{parts}
use Rattle.spec_core.proofs.relative.ancestor.Given as goal

abbrev pub invariant-levels : goal.invariant-levels
invariant-levels l = record {
  some : l.counter < length (parts l.initial.name);
  left : parts l.name ≡ take (length (parts l.initial.name) - l.counter) (parts l.initial.name);
}
