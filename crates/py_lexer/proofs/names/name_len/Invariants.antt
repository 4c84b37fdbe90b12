use Rattle.std.proofs.Common.{◌≡◌, ◌-◌, length, ◌+◌, ◌≤◌, drop}
use Rattle.std.specs.List.{prefix_len}
use Rattle.spec_core.specs.Identifiers.{continues_identifier}
use Rattle.py_lexer.proofs.names.name_len.Given as goal

abbrev pub invariant-len : goal.invariant-len
invariant-len l = record {
  within : l.len ≤ length l.chars;
  value : l.len + prefix_len continues_identifier (drop l.len l.chars) ≡ prefix_len continues_identifier l.chars;
}

abbrev pub decreases-len : goal.decreases-len
decreases-len l = length l.chars - l.len
